-- From what a store promises of a call to what is known of it after the call.
use Rattle.std.proofs.Common.{◌≡◌, Some, None, Ok, Err, Result, sym, refl, ◌∙◌, subst, inl, inr, ⊎_elim}
use Rattle.power.specs.Rules.{Rules}
use Rattle.power.specs.Sights.{Sight, Sound, Ended, Wrote, Asked, Restart, Woken}
use Rattle.power.specs.Known.{Known, up, lost, Means, Restarts, Turned, served, refused, failed, asleep}

module _ (R : Rules) where
  -- something is known after the call that the store means
  abbrev pub Next : {U : Type 0} → R.Call → Result U R.Fault → Sight R → Known R → Type 0
  Next c r b x = (y : Known R) × (Turned R c r x y × Means R b y)

  ended_next : {U : Type 0} (c : R.Call) (s : R.State) (r : Result U R.Fault) (b : Sight R) → Sound R b → b.limits ≡ R.limits s → Ended R c s r b → Next c r b (up s)
  ended_next c s (Ok x) b sound lim h = (up b.view, (served x s b.view h.free h.step, record { on = h.on; view = refl; limits = sound.limits h.on }))
  ended_next c s (Err e) b sound lim (inl h) = (up s, (refused e s h.why, record { on = h.on; view = h.same; limits = lim }))
  ended_next c s (Err e) b sound lim (inr h) = (lost c s, (failed e s h.free h.why, record { off = h.off; may = h.may; limits = lim }))

  -- from a known state a store is never damaged
  pub undamaged : (a : Sight R) (x : Known R) → Sound R a → Means R a x → a.leaves None → ⊥
  undamaged a (up s) sound m none = sound.kept m.on None none
  undamaged a (lost c s) sound m none = m.may None none

  -- a writing call
  pub wrote_next : {U : Type 0} (c : R.Call) (a : Sight R) (r : Result U R.Fault) (b : Sight R) → Sound R a → Sound R b → Wrote R c a r b → (x : Known R) → Means R a x → Next c r b x
  wrote_next c a r b before after w (up s) m =
      subst (λ (t : R.State). Next c r b (up t)) m.view
      (ended_next c a.view r b after (w.limits ∙ before.limits m.on) (w.wakes m.on))
  wrote_next c a r b before after w (lost d s) m =
      let h = w.sleeps m.off in
      subst (λ (q : Result _ R.Fault). Next c q b (lost d s)) (sym h.tells)
      (lost d s, (asleep h.fault d s (⊎_elim (λ down. down) (λ hurt. absurd (m.may None hurt.1)) h.why), record { off = h.off; may = λ o l. m.may o (h.may o l); limits = w.limits ∙ m.limits }))

  -- a question leaves what is known
  pub asked_same : {U : Type 0} (f : R.State → Result U R.Fault) (a : Sight R) (r : Result U R.Fault) (b : Sight R) → Asked R f a r b → (x : Known R) → Means R a x → Means R b x
  asked_same f a r b w (up s) m = let h = w.wakes m.on in record { on = h.on; view = h.same ∙ m.view; limits = w.limits ∙ m.limits }
  asked_same f a r b w (lost d s) m = let h = w.sleeps m.off in record { off = h.off; may = λ o l. m.may o (h.may o l); limits = w.limits ∙ m.limits }

  -- a question is answered while the power is on
  pub asked_tells : {U : Type 0} (f : R.State → Result U R.Fault) (a : Sight R) (r : Result U R.Fault) (b : Sight R) (s : R.State) → Asked R f a r b → Means R a (up s) → r ≡ f s
  asked_tells f a r b s w m = (w.wakes m.on).tells ∙ (λ i. f (m.view i))

  restarted : {U : Type 0} (a : Sight R) (r : Result U R.Fault) (b : Sight R) (x : Known R) → Woken R a r b → Means R a x → Restart R a r b
  restarted a r b (up s) w m = w.wakes m.on
  restarted a r b (lost c s) w m = w.sleeps m.off

  left_of : (a : Sight R) (u : R.State) (x : Known R) → Sound R a → Means R a x → a.leaves (Some u) → Restarts R x u
  left_of a u (up s) sound m l = subst (λ (t : R.State). R.MayLeave None t u) m.view (sound.kept m.on (Some u) l)
  left_of a u (lost c s) sound m l = m.may (Some u) l

  -- a restart of a known state is answered Ok, and leaves what it may
  pub record Awake {U : Type 0} (x : Known R) (r : Result U R.Fault) (b : Sight R) : Type 0 where
    pub value : U
    pub tells : r ≡ Ok value
    pub left : Restarts R x b.view
    pub safe : R.Safe b.view
    pub means : Means R b (up b.view)

  pub woken_next : {U : Type 0} (a : Sight R) (r : Result U R.Fault) (b : Sight R) → Sound R a → Sound R b → Woken R a r b → (x : Known R) → Means R a x → Awake x r b
  woken_next a (Ok v) b before after w x m =
      let h = restarted a (Ok v) b x w m in
      record { value = v; tells = refl; left = left_of a b.view x before m h.left; safe = h.safe; means = record { on = h.on; view = refl; limits = after.limits h.on } }
  woken_next a (Err e) b before after w x m = absurd (undamaged a x before m (restarted a (Err e) b x w m).left)
