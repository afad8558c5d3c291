pub mod ReportLoop
