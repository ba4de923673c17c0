-- What is promised of merges holds.
use mathlib.Core.List.Permᴰ
use Rattle.merge_demands.specs.MergeDemands.{MergeDemands}
use Rattle.sites.specs.Held.{held_in}
use Rattle.merge_demands.proofs.AnyFiles.{any_files}
use Rattle.merge_demands.proofs.AsPuts.{as_puts}
use Rattle.merge_demands.proofs.Deeds as Deeds
use Rattle.merge_demands.proofs.AfterFresh as AfterFresh

pub merge_demands : MergeDemands
merge_demands =
    record {
      any_files = any_files;
      fresh = Deeds.fresh;
      one_by_one = λ m f g w c row z zs q.
          let ys = held_in f.layout g.state g.area in
          let t = as_puts m f w row g c z ys (Permᴰ.refl ys) zs q in
          (t.0, t.2);
      after_fresh = AfterFresh.after_fresh;
    }
