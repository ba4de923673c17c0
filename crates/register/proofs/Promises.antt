-- What is promised of the calls is proved.
use mathlib.Core.Path.{◌≡◌, sym, ap, ◌∙◌}
use mathlib.Core.List.{List, Permᴰ}
use Prim.Native.Nat.{ℕ}
use Rattle.layouts.specs.Layout.{Layout, slots_of}
use Rattle.placing.specs.Image.{RecordSet}
use Rattle.placing.proofs.Images.{one_image}
use Rattle.pages.specs.Page.{Record, key}
use Rattle.pages.specs.Area.{area_from}
use Rattle.state.specs.declared.State.{State}
use Rattle.state.specs.State.{homes}
use Rattle.register.specs.OneImage.{AreaImage}
use Rattle.register.specs.Promises.{RegisterPromises}
use Rattle.register.proofs.CheckImage.{check_image}
use Rattle.register.proofs.MadeAnew.{row_arranges}

-- two areas that are the image of one set have the same pages, and so the same bytes
one_area : (form : Layout) (s : State) (a b : List ℕ) (rs ts : List Record) → RecordSet key rs → Permᴰ rs ts → AreaImage form s a rs → AreaImage form s b ts → a ≡ b
one_area form s a b rs ts f p i j = i.bytes ∙ ap (area_from form 0) (one_image key (homes s) (slots_of form) f p i.image j.image) ∙ sym j.bytes

pub register_promises : RegisterPromises
register_promises = record { check_yes = check_image; one_image = one_area; row_decides = λ form s area range low. row_arranges form s range low area }
