-- Format and check on any bytes: each way out with its numbers, and with the causes that hold there.
use mathlib.Core.Path.{◌≡◌, refl}
use mathlib.Core.Bool.{true, false}
use mathlib.Core.Logic.{◌↔◌, inl, inr}
use mathlib.Core.List.{List, [], ◌∷◌}
use Prim.Native.Nat.{ℕ, suc}
use native.Mathlib.Omega.{arith}
use lib.ListN.{length, replicate}
use Rattle.std.proofs.Common.{Ok, Err}
use Rattle.homes.specs.declared.Params.{Params}
use Rattle.state.specs.Promises.{Ranged}
use Rattle.numbers.specs.Little.{Bytes}
use Rattle.pages.specs.Area.{area_from}
use Rattle.state.specs.declared.State.{State}
use Rattle.state.specs.declared.Numbers.{Numbers}
use Rattle.state.specs.State.{fresh}
use Rattle.state.specs.Answer.{accepted, told, numbers, refused as why_told}
use Rattle.state.specs.Done.{done}
use Rattle.gates.specs.Gates.{Gate, on_gate, gate_of, image_gate, check_gate}
use Rattle.register.specs.OneImage.{ImageOfR}
use Rattle.register.specs.Files.{Call, format, check, File, left}
use Rattle.demands.specs.Refusals.{Cause, when, unless, RightArea, SomeBroken, LowestBroken, order, OneOf, gives, tells, AcceptedTells, Judges}
use Rattle.demands.proofs.InOrder.{listed, one_of, none_of, Comes}
use Rattle.demands.proofs.Causes.{Enters, out, other, entered, enter, Pages, sick, strange, whole, judge}
use Rattle.demands.proofs.CallNumbers.{Known, refuses, gated}

-- of a call that is accepted exactly where A holds, and that judges all pages or none
pub record Decided (f : File) (c : Call) (A : Type 0) (n : Numbers) : Type 0 where
  pub known : Known f c n
  pub accepts : (n.refusal ≡ 0) ↔ A
  pub judges : Judges f n

module _ (f : File) (c : Call) {A : Type 0} where
  module _ (k : ℕ) (p : listed k (0 ∷ 4 ∷ []) ≡ false) (g : listed k (gives c) ≡ true) (n : A → ⊥) (w : Comes k (order f c) (order f c)) where
    decides : (read : ℕ) → (OneOf k (9 ∷ 7 ∷ []) → read ≡ f.state.cap) → Decided f c A (told k 0 0 read 0)
    decides read all =
        record {
          known = refuses f c k read p g w;
          accepts = (λ e. absurd (none_of k (0 ∷ 4 ∷ []) p (inl e)), λ a. absurd (n a));
          judges = record {
            lowest = λ e. absurd (none_of k (0 ∷ 4 ∷ []) p (inr (inl e)));
            up_to = λ e. absurd (none_of k (0 ∷ 4 ∷ []) p (inr (inl e)));
            all = all;
          };
        }

    -- before a page is looked at, or after all were
    pub early : listed k (9 ∷ 7 ∷ []) ≡ false → Decided f c A (told k 0 0 0 0)
    early e = decides 0 (λ v. absurd (none_of k (9 ∷ 7 ∷ []) e v))

    pub late : Decided f c A (told k 0 0 f.state.cap 0)
    late = decides f.state.cap (λ v. refl)

  -- 4, with the lowest broken page
  pub sickly : listed 4 (gives c) ≡ true → (A → ⊥) → Comes 4 (order f c) (order f c) → (a : ℕ) → LowestBroken f a → Decided f c A (told 4 a 0 (suc a) 0)
  sickly g n w a l =
      record {
        known = record { comes = w; gives = one_of 4 (gives c) g; accepted = λ e. absurd (omega arith); broken = λ e. l.broken };
        accepts = (λ e. absurd (omega arith), λ x. absurd (n x));
        judges = record { lowest = λ e. l; up_to = λ e. omega arith; all = λ v. absurd (none_of 4 (9 ∷ 7 ∷ []) refl v) };
      }

  pub accepts : listed 0 (gives c) ≡ true → A → Comes 0 (order f c) (order f c) → (read moved : ℕ) → AcceptedTells f c (told 0 0 0 read moved)
      → Decided f c A (told 0 0 0 read moved)
  accepts g a w read moved t =
      record {
        known = record { comes = w; gives = one_of 0 (gives c) g; accepted = λ e. t; broken = λ e. absurd (omega arith) };
        accepts = (λ e. a, λ x. refl);
        judges = record { lowest = λ e. absurd (omega arith); up_to = λ e. absurd (omega arith); all = λ v. absurd (none_of 0 (9 ∷ 7 ∷ []) refl v) };
      }

  -- past what is refused before any page: 4 and 9, and then what is made of an image
  pub on_pages : (n : Numbers) (more : List Cause)
      → ((k : ℕ) → Comes k (order f c) (when 4 (SomeBroken f) ∷ unless 9 (ImageOfR f.layout f.state f.area) ∷ more) → Comes k (order f c) (order f c))
      → (listed 4 (gives c) ≡ true) × (listed 9 (gives c) ≡ true) → (A → ImageOfR f.layout f.state f.area)
      → ((SomeBroken f → ⊥) → ImageOfR f.layout f.state f.area → Decided f c A n)
      → Pages f → Decided f c A (on_gate (image_gate f.layout f.state f.area) why_told n)
  on_pages n more past given image on (sick a w z i) = rw i (sickly given.0 (λ v. z (image v)) (past 4 (inl ((a, w.broken), refl))) a w)
  on_pages n more past given image on (strange w z i) = rw i (late 9 refl given.1 (λ v. z (image v)) (past 9 (inr (w, inl (z, refl)))))
  on_pages n more past given image on (whole w m i) = rw i (on w m)

module _ (f : File) where
  abbrev s : State
  s = f.state

  abbrev area : List ℕ
  area = f.area

  -- Format
  module _ (q : Params) (cap : ℕ) where
    abbrev new : State
    new = fresh q cap

    abbrev formats : Call
    formats = format q cap

    format_tells : tells f formats ≡ on_gate (gate_of f.layout new (length area)) why_told (told 0 0 0 0 0)
    unfolding left
    format_tells = gated s area (record { done = done new (Ok (accepted 0 0 0)); area = area_from f.layout 0 (replicate cap []) }) (gate_of f.layout new (length area))

    pub format_decided : Decided f formats (Ranged f.layout new × RightArea new area) (tells f formats)
    format_decided = rw format_tells (go (enter f.layout new area))
      where
        go : Enters f.layout new area → Decided f formats (Ranged f.layout new × RightArea new area) (on_gate (gate_of f.layout new (length area)) why_told (told 0 0 0 0 0))
        go (out r g) = rw g (early f formats 1 refl refl (λ a. r a.0) (inl (r, refl)) refl)
        go (other r l g) = rw g (early f formats 2 refl refl (λ a. l a.1) (inr (r, inl (l, refl))) refl)
        go (entered r l g) = rw g (accepts f formats refl (r, l) (inr (r, inr (l, none_of 0 (1 ∷ 2 ∷ []) refl))) 0 0 refl)

  -- Check
  abbrev Good : Type 0
  Good = Ranged f.layout s × RightArea s area × ImageOfR f.layout s area

  check-tells : tells f check ≡ on_gate (gate_of f.layout s (length area)) why_told (on_gate (image_gate f.layout s area) why_told (told 0 0 0 s.cap 0))
  unfolding left check_gate
  check-tells = go (gate_of f.layout s (length area)) (image_gate f.layout s area)
    where
      go : (g i : Gate) → numbers (on_gate (on_gate g Err i) (λ why. done s (Err why)) (done s (Ok (accepted 0 s.cap 0)))).answer ≡ on_gate g why_told (on_gate i why_told (told 0 0 0 s.cap 0))
      go (Ok u) (Ok v) = refl
      go (Ok u) (Err why) = refl
      go (Err why) i = refl

  module _ (b : Bytes area) where
    pub check_decided : Decided f check Good (tells f check)
    check_decided = rw check-tells (go (enter f.layout s area))
      where
        pages : Ranged f.layout s → RightArea s area → Pages f → Decided f check Good (on_gate (image_gate f.layout s area) why_told (told 0 0 0 s.cap 0))
        pages r l =
            on_pages f check (told 0 0 0 s.cap 0) [] (λ k w. inr (r, inr (l, w))) (refl, refl) (λ v. v.2)
            (λ w m. accepts f check refl (r, l, m) (inr (r, inr (l, inr (w, inr (m, none_of 0 (1 ∷ 2 ∷ 4 ∷ 9 ∷ []) refl))))) s.cap 0 refl)

        go : Enters f.layout s area → Decided f check Good (on_gate (gate_of f.layout s (length area)) why_told (on_gate (image_gate f.layout s area) why_told (told 0 0 0 s.cap 0)))
        go (out r g) = rw g (early f check 1 refl refl (λ a. r a.0) (inl (r, refl)) refl)
        go (other r l g) = rw g (early f check 2 refl refl (λ a. l a.1) (inr (r, inl (l, refl))) refl)
        go (entered r l g) = rw g (pages r l (judge f b r l))
