-- From a fault to what a user is shown: its layer, its number, its values.
--
--   shelf_refusal, offsets_refusal, frame_refusal, recovery_refusal   the refusal of a fault of that layer
--   corruption_detail                                                 the kind of a corruption, with the blob of kind 3
--   told                                                              a refusal with a number and no more
--   unnumbered                                                        a fault that no act of the journal lets out
--   damaged                                                           corruption of kind 8: bytes that fit no state
--
-- The layer is that of the innermost fault: a fault that is kept inside another has the same refusal.
-- Assumes nothing.
use Rattle.std.specs.Prelude.{ℕ, Some, None}
use Rattle.faults.specs.declared.refusal.Layer.{Layer}
use Rattle.faults.specs.declared.refusal.Layer.TheVariants as layer
use Rattle.faults.specs.declared.refusal.Detail.{Detail}
use Rattle.faults.specs.declared.refusal.Detail.TheVariants.{Reason, Kind, KindOfBlob, Byte}
use Rattle.faults.specs.declared.refusal.Refusal.{Refusal}
use Rattle.faults.specs.declared.shelf.ShelfCause.{ShelfCause}
use Rattle.faults.specs.declared.shelf.ShelfCause.TheVariants as shelf
use Rattle.faults.specs.declared.shelf.ShelfFault.{ShelfFault}
use Rattle.faults.specs.declared.offsets.OffsetsFault.{OffsetsFault}
use Rattle.faults.specs.declared.offsets.OffsetsFault.TheVariants as offsets
use Rattle.faults.specs.declared.frame.Place.{Place}
use Rattle.faults.specs.declared.frame.FrameFault.{FrameFault}
use Rattle.faults.specs.declared.frame.FrameFault.TheVariants as frame
use Rattle.faults.specs.declared.recovery.Corruption.{Corruption}
use Rattle.faults.specs.declared.recovery.Corruption.TheVariants.{OffsetsBehindData, BoundaryAboveOldest, MissingBlob, DataTooShort, BlobOverfull, OffsetsWithoutData, EndNotBacked}
use Rattle.faults.specs.declared.recovery.RecoveryFault.{RecoveryFault}
use Rattle.faults.specs.declared.recovery.RecoveryFault.TheVariants as recovery

-- a number, and no value beside it
abbrev pub told : Layer → ℕ → Refusal
told l n = record { layer = l; number = Some n; detail = None }

-- no number: no act of the journal lets such a fault out
abbrev pub unnumbered : Layer → Refusal
unnumbered l = record { layer = l; number = None; detail = None }

-- corruption of kind 8: the bytes of a store fit no state of it
abbrev pub damaged : Layer → Refusal
damaged l = record { layer = l; number = Some 10; detail = Some (Kind 8) }

-- a frame that cannot be read, by its blob and the byte where it begins
abbrev pub unread : ℕ → Place → Refusal
unread n place = record { layer = layer.Frames; number = Some n; detail = Some (Byte place) }

abbrev pub cause_refusal : ShelfCause → Refusal
cause_refusal shelf.Missing = unnumbered layer.Shelf
cause_refusal shelf.Present = unnumbered layer.Shelf
cause_refusal shelf.Full = told layer.Shelf 5
cause_refusal shelf.TooLong = unnumbered layer.Shelf
cause_refusal shelf.OutOfRange = unnumbered layer.Shelf
cause_refusal shelf.Down = told layer.Shelf 13
cause_refusal shelf.Damaged = damaged layer.Shelf

abbrev pub shelf_refusal : ShelfFault → Refusal
shelf_refusal e = cause_refusal e.cause

abbrev pub offsets_refusal : OffsetsFault → Refusal
offsets_refusal offsets.Full = told layer.Recovery 5
offsets_refusal offsets.OutOfRange = unnumbered layer.Recovery
offsets_refusal offsets.Down = told layer.Recovery 13
offsets_refusal offsets.Damaged = damaged layer.Recovery
offsets_refusal (offsets.Shelf e) = shelf_refusal e

abbrev pub frame_refusal : FrameFault → Refusal
frame_refusal (frame.Shelf e) = shelf_refusal e
frame_refusal (frame.BadPrefix place) = unread 11 place
frame_refusal (frame.ItemUnreadable place) = unread 12 place

abbrev pub corruption_detail : Corruption → Detail
corruption_detail OffsetsBehindData = Kind 1
corruption_detail BoundaryAboveOldest = Kind 2
corruption_detail (MissingBlob blob) = KindOfBlob 3 blob
corruption_detail DataTooShort = Kind 4
corruption_detail BlobOverfull = Kind 5
corruption_detail OffsetsWithoutData = Kind 6
corruption_detail EndNotBacked = Kind 7

abbrev pub recovery_refusal : RecoveryFault → Refusal
recovery_refusal recovery.ItemPruned = told layer.Recovery 1
recovery_refusal recovery.ItemOutOfRange = told layer.Recovery 2
recovery_refusal recovery.NotOpen = told layer.Recovery 3
recovery_refusal (recovery.ItemRefused reason) = record { layer = layer.Recovery; number = Some 4; detail = Some (Reason reason) }
recovery_refusal recovery.NoSpace = told layer.Recovery 5
recovery_refusal recovery.PositionLimit = told layer.Recovery 6
recovery_refusal recovery.ShortBuffer = told layer.Recovery 7
recovery_refusal recovery.Config = told layer.Recovery 8
recovery_refusal recovery.OffsetOverflow = told layer.Recovery 9
recovery_refusal (recovery.Corrupt c) = record { layer = layer.Recovery; number = Some 10; detail = Some (corruption_detail c) }
recovery_refusal (recovery.Frame e) = frame_refusal e
recovery_refusal (recovery.Offsets e) = offsets_refusal e
