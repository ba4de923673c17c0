-- Histories of calls: in two parts, and the layout that they leave.
use mathlib.Core.Path.{◌≡◌, refl, ◌∙◌}
use mathlib.Core.List.{List, [], ◌∷◌, ◌++◌}
use Rattle.register.specs.Files.{Call, format, find, put, remove, grow, shrink, check, due, File, left, after}

pub after-append : (f : File) (cs ds : List Call) → after f (cs ++ ds) ≡ after (after f cs) ds
unfolding after
after-append f [] ds = refl
after-append f (c ∷ cs) ds = after-append (left f c).file cs ds

-- a file keeps its layout
pub same_layout : (f : File) (c : Call) → (left f c).file.layout ≡ f.layout
unfolding left
same_layout f (format q cap) = refl
same_layout f (find k) = refl
same_layout f (put x) = refl
same_layout f (remove k) = refl
same_layout f (grow row) = refl
same_layout f shrink = refl
same_layout f check = refl
same_layout f due = refl

pub after-layout : (f : File) (cs : List Call) → (after f cs).layout ≡ f.layout
unfolding after
after-layout f [] = refl
after-layout f (c ∷ cs) = after-layout (left f c).file cs ∙ same_layout f c
