-- The report of a blob, one piece at a time.
use Rattle.std.proofs.Common.{◌≡◌, ℕ, suc, ◌+◌, ◌-◌, ◌<◌, ◌≤◌, List, ◌++◌, length, get_or, Some, Ok, Err, Option, Result, sym, refl, ap, ◌∙◌, arith}
use Rattle.std.proofs.lemmas.List.{append_assoc}
use Rattle.faults.specs.declared.frame.FrameFault.{FrameFault}
use Rattle.items.specs.Kinds.{Kind}
use Rattle.frame.specs.Pieces.{Seen, item, torn, ended}
use Rattle.frame.proofs.ScanLoop.{item_sizes}
use Rattle.script.specs.Blobs.{piece_line, item_size, what_follows, piece_behind, report_from, report_of, PieceTold}

module _ (k : Kind) (text : List ℕ → List ℕ) (bs : List ℕ) where
  -- what is still to be told, from a byte behind i frames on
  abbrev pub left : ℕ → ℕ → List ℕ
  left i byte = report_from k text bs (suc (length bs) - i) i byte

  pub begins : left 0 0 ≡ report_of k text bs
  unfolding report_of
  begins = let all : suc (length bs) - 0 ≡ suc (length bs) = omega arith in ap (λ (n : ℕ). report_from k text bs n 0 0) all

  -- what one piece makes of it
  tells : (i byte : ℕ) → i ≤ length bs → left i byte ≡ piece_line text i byte (piece_behind k bs i byte) ++ what_follows (left (i + 1)) byte (item_size (piece_behind k bs i byte))
  tells i byte few =
      let one : suc (length bs) - i ≡ suc (suc (length bs) - (i + 1)) = omega arith in
      ap (λ (n : ℕ). report_from k text bs n i byte) one

  -- a piece was told, so that what follows it is still to be told
  pub goes_on : (i byte : ℕ) (before after whole : List ℕ) (next : Option ℕ) → i ≤ length bs → before ++ left i byte ≡ whole → PieceTold text i byte (piece_behind k bs i byte) before after next → after ++ what_follows (left (i + 1)) byte next ≡ whole
  goes_on i byte before after whole next few so_far told =
      let piece = piece_behind k bs i byte in
      (λ j. told.line j ++ what_follows (left (i + 1)) byte (told.size j))
      ∙ append_assoc before (piece_line text i byte piece) (what_follows (left (i + 1)) byte (item_size piece))
      ∙ ap (λ (l : List ℕ). before ++ l) (sym (tells i byte few)) ∙ so_far

  -- an item has some bytes, within the blob
  pub next_sizes : (i byte n : ℕ) → ((j : ℕ) → get_or bs j 0 < 256) → byte ≤ length bs → Some n ≡ item_size (piece_behind k bs i byte) → (0 < n) × (byte + n ≤ length bs)
  next_sizes i byte n bytes within e = by (piece_behind k bs i byte) refl e
    where
      by : (s : Result Seen FrameFault) → s ≡ piece_behind k bs i byte → Some n ≡ item_size s → (0 < n) × (byte + n ≤ length bs)
      by (Ok (item x p m)) is same =
          let m-is : m ≡ n = cc in
          let s = item_sizes k 0 0 bs i byte m x p bytes within is in
          (omega (arith, s.0), omega (arith, s.1))
      by (Ok (torn rest p)) is same = let z : ◌≡◌ {A = ℕ} 0 1 = cc in absurd (omega arith)
      by (Ok (ended p)) is same = let z : ◌≡◌ {A = ℕ} 0 1 = cc in absurd (omega arith)
      by (Err f) is same = let z : ◌≡◌ {A = ℕ} 0 1 = cc in absurd (omega arith)
