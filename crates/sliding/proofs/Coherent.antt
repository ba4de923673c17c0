-- What is read where the entries that leave are those of the others that fail a test, in their order.
use mathlib.Core.Path.{◌≡◌, refl, sym, ap, ◌∙◌}
use mathlib.Core.Bool.{Bool, true, false, not, false≢true}
use mathlib.Core.List.{List, [], ◌∷◌}
use Prim.Native.Nat.{ℕ, zero, suc}
use lib.ListN.{take, drop}
use borrow.Author.Tests.{eq-eqb, ne_eqb}
use Rattle.placing.specs.Image.{All, Distinct}
use Rattle.placing.specs.Steps.Keep.{keep}
use Rattle.placing.proofs.Keeping.{all_keep}
use Rattle.entries.specs.declared.Entry.{Entry}
use Rattle.sliding.specs.Steps.Reading.{is_next, stayed, unread, unmet}

-- the key of an entry
abbrev pub key_in : Entry → ℕ
key_in e = e.held.key

module _ (st : Entry → Bool) where
  -- those that leave
  abbrev pub gone : List Entry → List Entry
  gone xs = keep (λ x. not (st x)) xs

  -- one of another key isn't the next that leaves
  not_next : (k : ℕ) (es : List Entry) → All (λ y. key_in y ≡ k → ⊥) es → is_next es k ≡ false
  not_next k [] d = refl
  not_next k (e ∷ es) d = ne_eqb k (key_in e) (λ q. d.0 (sym q))

  stays_next : (x : Entry) (xs : List Entry) → Distinct key_in (x ∷ xs) → is_next (gone xs) (key_in x) ≡ false
  stays_next x xs d = not_next (key_in x) (gone xs) (all_keep (λ y. not (st y)) (λ y. key_in y ≡ key_in x → ⊥) xs d.0)

  -- What is read of xs with those that leave: as many of those that stay, and then all behind them.
  pub record Reads (k : ℕ) (xs : List Entry) : Type 0 where
    pub taken : stayed k (gone xs) xs ≡ take k (keep st xs)
    pub stay : keep st (unread k (gone xs) xs) ≡ drop k (keep st xs)
    pub leave : unmet k (gone xs) xs ≡ gone (unread k (gone xs) xs)

  pub reads : (k : ℕ) (xs : List Entry) → Distinct key_in xs → Reads k xs
  reads zero [] d = record { taken = refl; stay = refl; leave = refl }
  reads (suc k) [] d = record { taken = refl; stay = refl; leave = refl }
  reads zero (x ∷ xs) d = go (st x) refl (reads zero xs d.1)
    where
      go : (u : Bool) → st x ≡ u → Reads zero xs → Reads zero (x ∷ xs)
      go true e ih = let n = stays_next x xs d in record { taken = refl; stay = rw (e, n, e); leave = rw (e, n, e) }
      go false e ih = let n = eq-eqb (key_in x) (key_in x) refl in record { taken = refl; stay = rw (e, n) ih.stay; leave = rw (e, n) ih.leave }
  reads (suc k) (x ∷ xs) d = go (st x) refl (reads (suc k) xs d.1) (reads k xs d.1)
    where
      go : (u : Bool) → st x ≡ u → Reads (suc k) xs → Reads k xs → Reads (suc k) (x ∷ xs)
      go true e ih jh =
          let n = stays_next x xs d in
          record { taken = rw (e, n) (ap (λ (s : List Entry). x ∷ s) jh.taken); stay = rw (e, n) jh.stay; leave = rw (e, n) jh.leave }
      go false e ih jh =
          let n = eq-eqb (key_in x) (key_in x) refl in
          record { taken = rw (e, n) ih.taken; stay = rw (e, n) ih.stay; leave = rw (e, n) ih.leave }

  -- where the next one isn't one that leaves, it stays
  pub next_stays : (x : Entry) (xs es : List Entry) → es ≡ gone (x ∷ xs) → is_next es (key_in x) ≡ false → st x ≡ true
  next_stays x xs es c n = go (st x) refl
    where
      go : (u : Bool) → st x ≡ u → st x ≡ true
      go true e = e
      go false e = absurd (false≢true (sym (rw (c, e) at n) ∙ eq-eqb (key_in x) (key_in x) refl))
