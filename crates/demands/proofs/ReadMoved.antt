-- 01's "Pages read" and "Moved" on a file that stands.
use mathlib.Core.Path.{◌≡◌, refl, sym, ap, subst, ◌∙◌}
use mathlib.Core.List.{List}
use Prim.Native.Nat.{◌+◌}
use native.Mathlib.Omega.{arith}
use Rattle.placing.proofs.Strays.{strayed_none}
use Rattle.pages.specs.Page.{Record, key}
use Rattle.register.specs.Files.{Call, format, find, put, remove, grow, shrink, check, due, Left, left, numbers_of}
use Rattle.demands.specs.Histories.{Kept}
use Rattle.demands.specs.ReadMoved.{moved, read_to, ReadHeld, ReadAbsent, ReadWithin, pages_of, differ, Moved}
use Rattle.walks.proofs.Clean.{clean_held}
use Rattle.register.proofs.OnImage.{on_clean}
use Rattle.demands.proofs.Standing.{Stands, file_of}
use Rattle.demands.proofs.FindReads.{read_held, read_within, read_new}
use Rattle.demands.proofs.Steps.{Step, refused, accepted, said, Puts, repeats, clashes, turned_away, joined, put_comes, step}

-- where nothing was written nothing differs
none_differ : (c : Call) (ps : List (List Record)) → differ c ps ps ≡ 0
none_differ (format q cap) ps = refl
none_differ (find k) ps = refl
none_differ (put x) ps = strayed_none key ps
none_differ (remove k) ps = strayed_none key ps
none_differ (grow row) ps = strayed_none key ps
none_differ shrink ps = strayed_none key ps
none_differ check ps = refl
none_differ due ps = refl

module _ (m : Kept) (ps : List (List Record)) (s : Stands m ps) where
  pub read_held_stands : ReadHeld (file_of m ps)
  read_held_stands k b v l w = read_held s k l b v w

  pub read_within_stands : ReadWithin (file_of m ps)
  read_within_stands k l = read_within s k l

  pub read_absent_stands : ReadAbsent (file_of m ps)
  read_absent_stands x b w fits n t = go (put_comes s x fits)
    where
      -- the call is accepted
      taken : {o : Left} → left (file_of m ps) (put x) ≡ o → (numbers_of o.said).refusal ≡ 0
      taken e = sym (ap (λ (o : Left). (numbers_of o.said).refusal) e) ∙ n

      go : Puts m ps x → read_to (file_of m ps) (key x) ≡ b + 1
      go (repeats c i e q a) = absurd (omega (arith, taken a))
      go (clashes c i e q a) = absurd (omega (arith, taken a))
      go (turned_away i e a) = absurd (omega (arith, taken a))
      go (joined e a) = read_new s x fits.0 e a b w (rw a.left at t)

  pub moved_stands : Moved (file_of m ps)
  moved_stands c fits = go (step s c fits)
    where
      told : {o : Left} → left (file_of m ps) c ≡ o → (numbers_of o.said).moved ≡ differ c ps (pages_of o.file)
          → moved (file_of m ps) c ≡ differ c (pages_of (file_of m ps)) (pages_of (left (file_of m ps) c).file)
      told e t = rw (clean_held (on_clean s)) (subst (λ (o : Left). (numbers_of o.said).moved ≡ differ c ps (pages_of o.file)) (sym e) t)

      go : Step m ps c → moved (file_of m ps) c ≡ differ c (pages_of (file_of m ps)) (pages_of (left (file_of m ps) c).file)
      go (refused why row p e) = told e (rw (clean_held (on_clean s)) (p.1 ∙ sym (none_differ c ps)))
      go (accepted new v row q k a) = told a.left (rw (clean_held (on_clean a.stands)) a.moves)
      go (said u k e) = told e (rw (clean_held (on_clean s)) (sym (none_differ c ps)))
