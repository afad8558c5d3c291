-- A search that halves: what one row read in the middle tells of those before and behind it.
use Rattle.std.proofs.Common.{◌≡◌, ℕ, ◌+◌, ◌<◌, ◌≤◌, List, length, get_or, take, drop, sym, ap, ◌∙◌, subst, length-drop, arith}
use Rattle.std.proofs.lemmas.Grind.{common_steps}
use Rattle.std.proofs.lemmas.List.{get_or_read}
use Rattle.table.specs.Tables.{Rising, Lower, Higher, FoundAt, MissedAt}
use Rattle.table.proofs.Keys.{row_of-at}
use Rattle.table.proofs.Places.{lower_before, row_of-gap}

module _ {R : Type 0} (key : R → ℕ) (k : ℕ) (rows : List R) where
  -- before the first row there is none
  pub none_lower : Rising key rows → Lower key k (take 0 rows)
  none_lower up j d h = absurd (omega arith)

  -- behind the last row there is none
  pub none_higher : Rising key rows → Higher key k (drop (length rows) rows)
  none_higher up j d h = absurd (omega (arith, length-drop (length rows) rows))

  module _ (i : ℕ) (x : R) (h : i < length rows) (e : x ≡ get_or rows i x) where
    -- the row has a lower key, and so have all before it
    pub lower_upto : key x < k → Rising key rows → Lower key k (take (i + 1) rows)
    lower_upto lt up j d within = grind (arith, common_steps, up j i d, get_or_read rows i x h e d)

    -- the row has a higher key, and so have all behind it
    pub higher_from : k < key x → Rising key rows → Higher key k (drop i rows)
    higher_from lt up j d within = grind (arith, common_steps, up i (i + j) d, get_or_read rows i x h e d)

    -- the row has the key
    pub found_at : key x ≡ k → FoundAt key k rows i
    found_at eq =
        let hit : (d : R) → key (get_or rows i d) ≡ k = λ d. ap key (sym (get_or_read rows i x h e d)) ∙ eq in
        record {
          within = h;
          hit = hit;
          row = λ up d. row_of-at key k rows i d h (hit d) (lower_before key k rows i d h (hit d) up);
        }

  -- the rows before a place have lower keys, and those from it on higher ones
  pub missed_at : (i j : ℕ) → i ≤ j → j ≤ i → i ≤ length rows → (Rising key rows → Lower key k (take i rows)) → (Rising key rows → Higher key k (drop j rows)) → MissedAt key k rows i
  missed_at i j le ge h low high =
      let e : j ≡ i = omega arith in
      let up : Rising key rows → Higher key k (drop i rows) = subst (λ (z : ℕ). Rising key rows → Higher key k (drop z rows)) e high in
      record { within = h; lower = low; higher = up; row = λ r. row_of-gap key k rows i (low r) (up r) }
