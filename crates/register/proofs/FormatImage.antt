-- An accepted format leaves the image of no records, whatever was there before.
use mathlib.Core.Path.{◌≡◌, refl}
use mathlib.Core.Bool.{Bool, true, false, cond}
use mathlib.Core.List.Permᴰ
use mathlib.Core.List.{[]}
use Prim.Native.Nat.{ℕ, zero, suc, ◌*◌}
use native.Mathlib.Omega.{arith}
use lib.Dec.{eqb}
use Rattle.std.proofs.Common.{Ok, Err}
use lib.ListN.{length, replicate, length-replicate}
use Rattle.layouts.specs.Layout.{Layout, slots_of}
use Rattle.homes.specs.declared.Params.{Params}
use Rattle.placing.specs.Image.{cat, page, Image}
use Rattle.pages.specs.Page.{Record, key}
use Rattle.pages.specs.Area.{area_from}
use Rattle.state.specs.declared.Refusal.TheVariants.{OutOfRange, WrongArea}
use Rattle.state.specs.Answer.{accepted}
use Rattle.state.specs.Done.{done}
use Rattle.state.specs.State.{in_range, homes, fresh}
use Rattle.gates.specs.Gates.{opens, on_gate, gate_of}
use Rattle.changes.specs.Changes.{refused}
use Rattle.register.specs.Files.{format, File, Left, leaves, of_outcome, left}
use Rattle.register.proofs.OnImage.{OnImage}

-- n empty pages hold nothing
blank_page : (n a : ℕ) → page {R = Record} (replicate n []) a ≡ []
blank_page zero a = refl
blank_page (suc n) zero = refl
blank_page (suc n) (suc a) = blank_page n a

blank_cat : (n : ℕ) → cat {R = Record} (replicate n []) [] ≡ []
blank_cat zero = refl
blank_cat (suc n) = blank_cat n

-- so they are the image of no records
pub blank_image : (b : ℕ) (h : ℕ → ℕ) (n : ℕ) → Image key h b n [] (replicate n [])
blank_image b h n =
    record {
      arranged = record {
        many = length-replicate n [];
        slots = λ a. rw (blank_page n a) (omega arith);
        lies = λ a. rw (blank_page n a) tt;
        holds = rw (blank_cat n) Permᴰ.nil;
      };
      full = λ a. rw (blank_page n a) tt;
      rising = rw (blank_cat n) tt;
    }

blank_stands : (form : Layout) (q : Params) (cap : ℕ) → in_range form (fresh q cap) ≡ true → OnImage form (fresh q cap) [] (replicate cap [])
blank_stands form q cap r = record { range = r; set = record { keys = tt; once = tt }; formed = tt; count = refl; image = blank_image (slots_of form) (homes (fresh q cap)) cap }

-- what a format comes to: it begins a file, or is refused with 1 or 2
pub data Begins (f : File) (q : Params) (cap : ℕ) (l : Left) : Type 0 where
  began : l ≡ leaves f.layout (done (fresh q cap) (Ok (accepted 0 0 0))) (area_from f.layout 0 (replicate cap [])) [] → OnImage f.layout (fresh q cap) [] (replicate cap []) → Begins f q cap l
  outside : l ≡ leaves f.layout (done f.state (Err OutOfRange)) f.area [] → Begins f q cap l
  elsewhere : l ≡ leaves f.layout (done f.state (Err WrongArea)) f.area [] → Begins f q cap l

pub format_begins : (f : File) (q : Params) (cap : ℕ) → Begins f q cap (left f (format q cap))
unfolding left gate_of
format_begins f q cap = go (in_range f.layout (fresh q cap)) (eqb (length f.area) (256 * cap)) refl
  where
    go : (u v : Bool) → in_range f.layout (fresh q cap) ≡ u
        → Begins f q cap (of_outcome f.layout (on_gate (cond u (cond v opens (Err WrongArea)) (Err OutOfRange)) (refused f.state f.area) (record { done = done (fresh q cap) (Ok (accepted 0 0 0)); area = area_from f.layout 0 (replicate cap []) })))
    go true true e = began refl (blank_stands f.layout q cap e)
    go true false e = elsewhere refl
    go false v e = outside refl
