-- What is known of a file that passed its gate: its records are a set, and a search finds what they hold.
use mathlib.Core.Path.{◌≡◌}
use mathlib.Core.List.{List, []}
use Prim.Native.Nat.{ℕ, zero, suc, ◌+◌, ◌*◌, ◌^◌, ◌≤◌, ◌<◌}
use native.Mathlib.Omega.{arith}
use lib.ListN.{length}
use Rattle.numbers.specs.Little.{Bytes}
use Rattle.layouts.specs.Layout.{Layout, in_use}
use Rattle.placing.specs.Image.{All, cat, RecordSet}
use Rattle.placing.specs.Walks.{seek}
use Rattle.placing.proofs.Lists.{all_append}
use Rattle.placing.proofs.Images.{find_image}
use Rattle.pages.specs.Page.{key, records_in}
use Rattle.pages.specs.Small.{Small}
use Rattle.pages.specs.Area.{part_at, held_from}
use Rattle.pages.proofs.Bounds.{part_small}
use Rattle.state.specs.declared.State.{State}
use Rattle.state.specs.State.{homes}
use Rattle.state.specs.Promises.{Ranged}
use Rattle.state.proofs.Ranges.{ranged, in_shape}
use Rattle.survey.proofs.ImageTest.{good_pages}
use Rattle.survey.proofs.Knowing.{image_here}
use Rattle.gates.specs.Steps.Past.{OpenImage}
use Rattle.gates.proofs.Judging.{open_good, held_set, held_image}
use Rattle.sites.specs.Held.{held_in}
use Rattle.sites.specs.Steps.Sites.{site_of, Walkable, look}

-- what any bytes hold fits a record
pub held_small : (l : Layout) (area : List ℕ) → Bytes area → (n a : ℕ) → 256 * (a + n) ≤ length area → All (Small l) (cat (held_from l area n a) [])
held_small l area b zero a h = tt
held_small l area b (suc n) a h =
    all_append (Small l) (records_in l (part_at area a)) (cat (held_from l area n (suc a)) []) (part_small l area a (omega arith) b) (held_small l area b n (suc a) (omega arith))

pub record Known (s : State) (area : List ℕ) : Type 0 where
  pub range : Ranged in_use s
  pub set : RecordSet key (held_in in_use s area)
  pub small : All (Small in_use) (held_in in_use s area)
  pub count : length (held_in in_use s area) ≡ s.r
  pub looks : (k : ℕ) → k < 2 ^ 64 → look (site_of s) area k ≡ seek key k (held_in in_use s area)
  pub walks : Walkable area (site_of s)

module _ (s : State) (area : List ℕ) (b : Bytes area) (g : OpenImage in_use s area) where
  pub known : Known s area
  unfolding held_in look
  known =
      let k = open_good in_use s area g.2 in
      let w : Ranged in_use s = ranged in_use s g.0 in
      let set = held_set in_use s area b g.1 k in
      let image = held_image in_use s area b g.1 k in
      let here = image_here in_use (homes s) area s.cap (good_pages in_use (homes s) area b s.cap 0 (omega (arith, g.1)) k.whole) k.image in
      record {
        range = w;
        set = set;
        small = held_small in_use area b s.cap 0 (omega (arith, g.1));
        count = k.count;
        looks = λ j l. find_image key (homes s) _ j l set image;
        walks = record { few = w.cap_high; long = g.1; ready = in_shape in_use s g.0; grown = w.p_high; image = image; known = here };
      }
