-- What is promised of comparisons holds.
use mathlib.Core.Path.{refl}
use Rattle.numbers.proofs.Records.{length-encode}
use Rattle.layouts.specs.Layout.{in_use}
use Rattle.two_sets.specs.Differences.{only_first, only_second, unlike}
use Rattle.differences.specs.Listing.{fields, closing, listing}
use Rattle.comparison_demands.specs.ComparisonDemands.{ComparisonDemands}
use Rattle.comparison_demands.proofs.AnyBytes as AnyBytes
use Rattle.comparison_demands.proofs.AfterFresh as AfterFresh

pub comparison_demands : ComparisonDemands
unfolding listing
comparison_demands =
    record {
      any_bytes = AnyBytes.any_bytes;
      after_fresh = AfterFresh.after_fresh;
      sets_alone = AfterFresh.sets_alone;
      alone = λ f. refl;
      long_first = λ x. length-encode (fields in_use (only_first x));
      long_second = λ y. length-encode (fields in_use (only_second y));
      long_unlike = λ x y. length-encode (fields in_use (unlike x y));
      long_closing = λ p q r. length-encode (closing p q r);
    }
