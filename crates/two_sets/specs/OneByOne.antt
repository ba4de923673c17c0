-- Records put into pages one after the other, over any records, any home of a key and any number of
-- slots to a page.
use Rattle.std.specs.Prelude.{ℕ, ◌≡◌, List, [], ◌∷◌}
use Rattle.placing.specs.Walks.{put_in}

module _ {R : Type 0} (key : R → ℕ) (h : ℕ → ℕ) (b : ℕ) where
  -- the pages after these puts
  abbrev pub put_all : List R → List (List R) → List (List R)
  put_all [] ps = ps
  put_all (x ∷ xs) ps = put_all xs (put_in key h b x ps).0

  -- each of them finds room
  abbrev pub AllFit : List R → List (List R) → Type 0
  AllFit [] ps = Unit {0}
  AllFit (x ∷ xs) ps = ((put_in key h b x ps).1 ≡ []) × AllFit xs (put_in key h b x ps).0
