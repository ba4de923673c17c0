-- What check tells its user.
use mathlib.Core.Path.{◌≡◌, refl, ◌∙◌}
use mathlib.Core.Bool.{Bool, true, false, cond, ◌&&◌}
use mathlib.Core.Logic.{◌↔◌}
use mathlib.Core.Option.{none}
use mathlib.Core.List.Permᴰ
use mathlib.Core.List.{List, []}
use Prim.Native.Nat.{ℕ, ◌*◌}
use native.Mathlib.Omega.{arith}
use lib.Dec.{eqb}
use lib.ListN.{length}
use Rattle.std.proofs.Common.{Ok, Err}
use Rattle.numbers.specs.Little.{Bytes}
use Rattle.layouts.specs.Layout.{Layout, slots_of}
use Rattle.placing.specs.Image.{cat, Image}
use Rattle.placing.proofs.Perms.{perm-length}
use Rattle.pages.proofs.Areas.{area_pages, held_length}
use Rattle.pages.specs.Page.{Record, key}
use Rattle.pages.specs.Area.{pages_from, held_from}
use Rattle.survey.specs.Survey.{Verdict, lowest_broken, surveyed}
use Rattle.survey.proofs.ImageTest.{GoodFrom, image_test, none_broken, good_pages, all_pass}
use Rattle.state.specs.declared.State.{State}
use Rattle.state.specs.declared.Refusal.TheVariants.{NotImage}
use Rattle.state.specs.declared.Done.{Done}
use Rattle.state.specs.Answer.{Answer, accepted}
use Rattle.state.specs.Done.{done}
use Rattle.state.specs.State.{in_range, homes}
use Rattle.gates.specs.Gates.{Gate, opens, on_gate, gate_of, image_of, image_gate, check_gate}
use Rattle.register.specs.OneImage.{AreaImage, ImageOfR}
use Rattle.register.specs.Calls.{checked}
use Rattle.gates.proofs.Gating.{gate_open, check_pages}
use Rattle.gates.proofs.Judging.{GoodFile, open_good, good_open, held_set, held_image}

-- an image of records is that of the records that stand on it
of_own : {b : ℕ} {h : ℕ → ℕ} {n : ℕ} {rs : List Record} {ps : List (List Record)} → Image key h b n rs ps → Image key h b n (cat ps []) ps
of_own {ps = ps} i =
    let a = i.arranged in
    record { arranged = record { many = a.many; slots = a.slots; lies = a.lies; holds = Permᴰ.refl (cat ps []) }; full = i.full; rising = i.rising }

-- what a check comes to past its gate, or at it
abbrev checks : State → Gate → Done Answer
checks s g = on_gate g (λ why. done s (Err why)) (done s (Ok (accepted 0 s.cap 0)))

-- a gate that is shut says why not
only_open : (form : Layout) (s : State) (area : List ℕ) → (checks s (image_gate form s area)).answer ≡ Ok (accepted 0 s.cap 0) → image_gate form s area ≡ opens
unfolding image_gate
only_open form s area e = go (surveyed form (homes s) area s.cap) e
  where
    tests : (u : Bool) → (checks s (cond u opens (Err (NotImage s.cap)))).answer ≡ Ok (accepted 0 s.cap 0) → cond u opens (Err (NotImage s.cap)) ≡ opens
    tests true k = refl
    tests false k = absurd (let z : ◌≡◌ {A = ℕ} 0 1 = cc in omega arith)

    go : (v : Verdict) → (checks s (image_of s v)).answer ≡ Ok (accepted 0 s.cap 0) → image_of s v ≡ opens
    go (Err a) k = absurd (let z : ◌≡◌ {A = ℕ} 0 1 = cc in omega arith)
    go (Ok w) k = tests (w.image && eqb w.records s.r) k

module _ (form : Layout) (s : State) (area : List ℕ) (b : Bytes area) (l : length area ≡ 256 * s.cap) where
  good : lowest_broken 0 (pages_from form (homes s) area s.cap 0) ≡ none → GoodFrom form (homes s) 0 (held_from form area s.cap 0)
  good e = good_pages form (homes s) area b s.cap 0 (omega arith) e

  -- what opens the gate is 01's image, and the other way round
  pub good_image : GoodFile form s area → ImageOfR form s area
  good_image k =
      let ps : List (List Record) = held_from form area s.cap 0 in
      record {
        records = cat ps [];
        set = held_set form s area b l k;
        count = k.count;
        is = record {
          pages = ps;
          bytes = area_pages form (homes s) area s.cap ps b l (none_broken form (homes s) area s.cap 0 k.whole);
          pass = none_broken form (homes s) area s.cap 0 k.whole;
          image = held_image form s area b l k;
        };
      }

  pub image_good : ImageOfR form s area → GoodFile form s area
  image_good w =
      let ps : List (List Record) = held_from form area s.cap 0 in
      let i : AreaImage form s area w.records = w.is in
      let k = all_pass form (homes s) area s.cap i.pages i.pass in
      let m : Image key (homes s) (slots_of form) s.cap w.records ps = rw k.1 at i.image in
      record {
        whole = k.0;
        image = (image_test form (homes s) ps s.cap (held_length form area s.cap 0) (good k.0)).1 (of_own m);
        count = perm-length m.arranged.holds ∙ w.count;
      }

  -- "Check says yes exactly when the area is the image of r records."
  pub check_image : in_range form s ≡ true → ((checked form s area).answer ≡ Ok (accepted 0 s.cap 0)) ↔ ImageOfR form s area
  check_image r = (λ e. good_image (open_good form s area (yes e)), λ w. says (good_open form s area (image_good w)))
    where
      gate : opens ≡ gate_of form s (length area)
      gate = gate_open form s (length area) r l

      pages : image_gate form s area ≡ check_gate form s area
      pages = check_pages form s area opens gate refl (image_gate form s area) refl

      says : image_gate form s area ≡ opens → (checked form s area).answer ≡ Ok (accepted 0 s.cap 0)
      says e = rw (← pages, e)

      yes : (checked form s area).answer ≡ Ok (accepted 0 s.cap 0) → image_gate form s area ≡ opens
      yes e = only_open form s area (rw (← pages) at e)
