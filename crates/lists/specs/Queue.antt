-- A queue keeps the newest of what is put into it, at most so many (01, 'Sizes': the oldest goes). Its entries stand in an array.
use Rattle.std.specs.Prelude.{ℕ, ◌-◌, Bool, true, ◌&&◌, List, [], ◌∷◌, ◌++◌, length, take, drop}

module _ {A : Type 0} where
  -- the last `most` of a list, or all of it where it has no more
  unfoldable pub newest : ℕ → List A → List A
  newest most l = drop (length l - most) l

  -- x behind l, the oldest gone where they are more than `most`
  abbrev pub pushed : ℕ → List A → A → List A
  pushed most l x = newest most (l ++ (x ∷ []))

  -- the array a with l in its first places and its other places as they are
  abbrev pub onto : List A → List A → List A
  onto a l = l ++ drop (length l) a

  -- the array a, each of its first n places with what stands in the place above
  unfoldable pub shifted : List A → ℕ → List A
  shifted a n = take n (drop 1 a) ++ drop n a

  -- whether each of a list passes
  unfoldable pub all : (A → Bool) → List A → Bool
  all f [] = true
  all f (x ∷ l) = f x && all f l
