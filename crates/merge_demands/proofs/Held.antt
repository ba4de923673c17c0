-- What stands in a file: the records of any bytes that pass their check, and those of a file after a fresh
-- history.
use mathlib.Core.Path.{◌≡◌, refl, sym}
use mathlib.Core.List.{List, Permᴰ}
use Prim.Native.Nat.{ℕ}
use native.Mathlib.Omega.{arith}
use lib.ListN.{length}
use Rattle.numbers.specs.Little.{Bytes}
use Rattle.layouts.specs.Layout.{Layout}
use Rattle.placing.specs.Image.{All, RecordSet}
use Rattle.pages.specs.Page.{Record, key}
use Rattle.pages.specs.Small.{Small}
use Rattle.state.specs.declared.State.{State}
use Rattle.walks.proofs.Clean.{clean_held}
use Rattle.gates.specs.Gates.{opens, gate_of, image_gate}
use Rattle.gates.proofs.Judging.{held_set}
use Rattle.register.specs.OneImage.{ImageOfR}
use Rattle.register.specs.Files.{File}
use Rattle.register.proofs.CheckImage.{image_good}
use Rattle.register.proofs.OnImage.{on_clean, on_length, on_gate}
use Rattle.register.proofs.RemadeImage.{area_bytes, image_of, image_open}
use Rattle.demands.specs.Histories.{Kept, state_of}
use Rattle.demands.specs.Demands.{Fresh}
use Rattle.demands.specs.Refusals.{RightArea}
use Rattle.demands.proofs.Standing.{Stands, file_of}
use Rattle.demands.proofs.Demands.{stands}
use Rattle.sites.specs.Held.{held_in}
use Rattle.sites.proofs.Known.{held_small}

-- the records of a file are a set, and its layout takes them
pub record Holds (l : Layout) (s : State) (area : List ℕ) : Type 0 where
  pub set : RecordSet key (held_in l s area)
  pub small : All (Small l) (held_in l s area)

-- as those of an image are
pub holds : (l : Layout) (s : State) (area : List ℕ) → Bytes area → RightArea s area → ImageOfR l s area → Holds l s area
unfolding held_in
holds l s area b r w = record { set = held_set l s area b r (image_good l s area b r w); small = held_small l area b s.cap 0 (omega arith) }

-- what is known of a file after a fresh history
pub record Stood (m : Kept) (f : File) : Type 0 where
  pub layout : f.layout ≡ m.layout
  pub state : f.state ≡ state_of m
  pub bytes : Bytes f.area
  pub long : RightArea f.state f.area
  pub image : ImageOfR f.layout f.state f.area
  pub enters : opens ≡ gate_of f.layout f.state (length f.area)
  pub passes : opens ≡ image_gate f.layout f.state f.area
  pub held : Permᴰ (held_in f.layout f.state f.area) m.held
  pub set : RecordSet key m.held
  pub small : All (Small m.layout) m.held

-- it is the image of what is kept
of_stands : (m : Kept) (ps : List (List Record)) → Stands m ps → Stood m (file_of m ps)
unfolding held_in
of_stands m ps s =
    record {
      layout = refl;
      state = refl;
      bytes = area_bytes m.layout 0 ps;
      long = on_length s;
      image = image_of s;
      enters = on_gate s;
      passes = sym (image_open s);
      held = rw (clean_held (on_clean s)) s.image.arranged.holds;
      set = s.set;
      small = s.formed;
    }

pub stood : (m : Kept) (f : File) → Fresh m f → Stood m f
stood m f w =
    let t = stands m f w in
    rw t.1.0 (of_stands m t.0 t.1.1)

-- so what it holds is known too
pub holds_kept : {m : Kept} {f : File} → Stood m f → Holds f.layout f.state f.area
holds_kept {m} {f} w = holds f.layout f.state f.area w.bytes w.long w.image
