-- The lines of a report.
--
--   spoken_text, event_text                         the text of an item
--   frame_line, end_line, torn_line, refused_line   a line, with the byte 10 that ends it
--
-- Assumes nothing.
use Rattle.std.specs.Prelude.{ℕ, List, [], ◌∷◌, ◌++◌, Ok, Err, codes, Result}
use Rattle.faults.specs.Texts.{refusal_text}
use Rattle.faults.specs.declared.refusal.Refusal.{Refusal}
use Rattle.items.specs.declared.event.Event.{Event}
use Rattle.items.specs.declared.event.EventReason.{EventReason}
use Rattle.items.specs.Events.{event_of}
use Rattle.items.specs.Texts.{event_words}
use Rattle.text.specs.Decimal.{labelled}

-- a spoken line is its own text
abbrev pub spoken_text : List ℕ → List ℕ
spoken_text bs = bs

-- what was decoded, in words
abbrev pub decoded_text : Result Event EventReason → List ℕ
decoded_text (Ok e) = event_words e
decoded_text (Err r) = []

-- the text of an event, by its record
abbrev pub event_text : List ℕ → List ℕ
event_text bs = decoded_text (event_of bs)

-- a whole frame: its index, the byte where it begins, the text of its item
abbrev pub frame_line : ℕ → ℕ → List ℕ → List ℕ
frame_line i byte item = labelled (codes "frame ") i ++ (labelled (codes " byte ") byte ++ (codes " " ++ (item ++ (10 ∷ []))))

-- the end of a blob, with nothing behind its whole frames
abbrev pub end_line : ℕ → List ℕ
end_line size = labelled (codes "end ") size ++ (10 ∷ [])

-- a torn end: the size of the whole frames, and how many bytes follow
abbrev pub torn_line : ℕ → ℕ → List ℕ
torn_line size rest = labelled (codes "torn ") size ++ (labelled (codes " rest ") rest ++ (10 ∷ []))

-- a refusal: its number and its values
abbrev pub refused_line : Refusal → List ℕ
refused_line r = refusal_text r ++ (10 ∷ [])
