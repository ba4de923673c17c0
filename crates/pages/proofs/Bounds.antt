-- What bytes hold are numbers of their fields' widths.
use mathlib.Core.Path.{◌≡◌}
use mathlib.Core.List.{List}
use Prim.Native.Nat.{ℕ, zero, suc, ◌+◌, ◌*◌, ◌^◌, ◌≤◌, ◌<◌}
use native.Mathlib.Omega.{arith}
use lib.ListN.{length, drop}
use Rattle.numbers.specs.Little.{Bytes}
use Rattle.numbers.proofs.Laws.{bytes_take, bytes_drop, length_part, number_bound}
use Rattle.layouts.specs.Layout.{Layout, slots_of, slot_at, width_of}
use Rattle.layouts.proofs.Lying.{slot_fits, width_low}
use Rattle.placing.specs.Image.{All}
use Rattle.placing.proofs.Lists.{all_map}
use Rattle.pages.specs.Page.{key, run_at, records_from, count_in, records_in}
use Rattle.pages.specs.Small.{RunFits, Small}
use Rattle.pages.specs.Area.{part_at}

run_fits : (f : Layout) (l : List ℕ) (at : ℕ) → at + width_of f ≤ length l → Bytes l → RunFits f (run_at f l (at + 20))
run_fits zero l at h b = omega arith
run_fits (suc f) l at h b = number_bound 4 l (at + 20) (omega arith) b

-- a page's part of bytes is bytes
pub part_bytes : (area : List ℕ) (a : ℕ) → Bytes area → Bytes (part_at area a)
unfolding part_at
part_bytes area a b = bytes_take 256 (drop (256 * a) area) (bytes_drop (256 * a) area b)

module _ (f : Layout) where
  small_from : (l : List ℕ) → length l ≡ 256 → Bytes l → (n i : ℕ) → n + i ≤ slots_of f → All (Small f) (records_from f n i l)
  small_from l e b zero i h = tt
  small_from l e b (suc n) i h =
      let fits : slot_at f i + width_of f ≤ 256 = slot_fits f i (omega arith) in (
        (number_bound 8 l (slot_at f i + 4) (omega (arith, width_low f)) b, number_bound 8 l (slot_at f i + 12) (omega (arith, width_low f)) b, run_fits f l (slot_at f i) (omega arith) b),
        small_from l e b n (suc i) (omega arith),
      )

  pub held_small : (l : List ℕ) → length l ≡ 256 → Bytes l → All (Small f) (records_in f l)
  unfolding records_in
  held_small l e b = small_from l e b (count_in f l) 0 (omega arith)

  -- those of a page in an area
  pub part_small : (area : List ℕ) (a : ℕ) → 256 * (a + 1) ≤ length area → Bytes area → All (Small f) (records_in f (part_at area a))
  unfolding part_at
  part_small area a h b =
      held_small (part_at area a) (length_part 256 area (256 * a) (omega arith)) (part_bytes area a b)

  pub keys_small : (area : List ℕ) (a : ℕ) → 256 * (a + 1) ≤ length area → Bytes area → All (λ x. key x < 2 ^ 64) (records_in f (part_at area a))
  keys_small area a h b = all_map (Small f) (λ x. key x < 2 ^ 64) (λ x k. k.0) (records_in f (part_at area a)) (part_small area a h b)
