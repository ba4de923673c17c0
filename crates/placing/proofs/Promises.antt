-- What is promised of records on pages holds.
use Prim.Native.Nat.{ℕ}
use Rattle.placing.specs.Promises.{PlacingPromises}
use Rattle.placing.proofs.Counts as Counts
use Rattle.placing.proofs.Images as Images
use Rattle.placing.proofs.Rehome as Rehome
use Rattle.placing.proofs.Changes as Changes

pub placing_promises : {R : Type 0} (key : R → ℕ) (h : ℕ → ℕ) (b : ℕ) → PlacingPromises key h b
placing_promises key h b =
    record {
      one_image = Images.one_image key h b;
      page_counts = Counts.page_counts key h b;
      room = Images.room_taken key h b;
      room_image = Images.room_image key h b;
      room_lower = λ h' n s. Rehome.room_lower key h' h b n s;
      find_image = Images.find_image key h b;
      put_image = Changes.put_image key h b;
      put_room = Changes.put_room key h b;
      remove_image = Changes.remove_image key h b;
    }
