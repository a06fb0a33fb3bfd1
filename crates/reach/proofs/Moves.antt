-- The search as moves gives exactly the list of `search`: a move keeps the entries listed together with those still to come, and the
-- number of moves still to come falls by one with each, down to 0, where nothing is left to list. For every program and every table.
-- Rests on specs/Moves and specs/Search alone.
use Prim.Native.Nat.{ℕ, zero, suc, ◌+◌, ◌-◌, pred}
use mathlib.Core.Path.{◌≡◌, refl, sym, ◌∙◌}
use mathlib.Core.List.{List, [], ◌∷◌, ◌++◌, flat_map, append-nil, append_assoc}
use native.Mathlib.Omega.{arith}
use Rattle.reach.specs.Syntax.{Program}
use Rattle.reach.specs.Parts.{Parts}
use Rattle.reach.specs.Types.{Fork, least_depths}
use Rattle.reach.specs.Eval.{State, Question, Next, demands, lacks, stops, goes, waits, next, start}
use Rattle.reach.specs.Search.{Entry, gather, input_behind, state_behind, search, open_input, entries}
use Rattle.reach.specs.Moves.{Choice, Position, on, over, Walk, settle, arrive, take_fork, return, move_from, move, moves, opening, total, count_next, path_moves, choices_moves, owed_moves_from, owed_moves, finished}

-- where a sum is 0, lists that are empty where their number is 0 are empty all together
flat_map_none : {A B : Type 0} (f : A → ℕ) (g : A → List B) → ((x : A) → f x ≡ 0 → g x ≡ []) → (xs : List A) → total f xs ≡ 0 → flat_map g xs ≡ []
unfolding total flat_map
flat_map_none f g h [] e = refl
flat_map_none f g h (x ∷ xs) e = rw (h x (omega arith), flat_map_none f g h xs (omega arith))

-- where nothing counts behind a step or a fork, nothing counts
count_none : (x : Next) → count_next (λ s. 0) (λ q. 0) x ≡ 0
unfolding count_next
count_none demands = refl
count_none lacks = refl
count_none (stops why) = refl
count_none (goes s) = refl
count_none (waits q) = refl

-- a choice point with these constructors still untried
abbrev with_untried : Choice → List Fork → Choice
with_untried c fs = record { question = c.question; left = c.left; done = c.done; input = c.input; untried = fs }

module _ (p : Program) (table : List ℕ) where
  -- the entries that choice points owe, the last first: those of its untried constructors, in order
  unfoldable pub choices_owed : List Choice → List Entry
  choices_owed cs =
      flat_map (λ (c : Choice). flat_map (λ (f : Fork). search p table c.left c.done (input_behind c.question f c.input) (state_behind c.question f)) c.untried) cs

  -- the entries of the path under way, if there is one, then those that the choice points owe
  unfoldable pub owed_from : Position → List Choice → List Entry
  owed_from (on g) cs = search p table g.left g.done g.input g.state ++ choices_owed cs
  owed_from over cs = choices_owed cs

  -- the entries still to come
  unfoldable pub owed : Walk → List Entry
  owed w = owed_from w.position w.choices

  -- the entries listed and still to come are es, and k moves are still to come
  abbrev Yields : Walk → List Entry → ℕ → Type 0
  Yields w es k = (w.listed ++ owed w ≡ es) × (owed_moves p table w ≡ k)

  -- over these choice points, with es listed, w has the entries ys and m moves more to come
  abbrev Adds : List Choice → List Entry → Walk → List Entry → ℕ → Type 0
  Adds cs es w ys m = Yields w (es ++ (ys ++ choices_owed cs)) (m + choices_moves p table cs)

  -- `settle` adds what `gather` gathers, if what the path goes on to does
  settle_adds :
      (go : State → Walk) (fork : Question → Walk) (goEntries : State → List Entry) (forkEntries : Question → List Entry) (goMoves : State → ℕ)
      (forkMoves : Question → ℕ) (n : ℕ) (input : Parts) (cs : List Choice) (es : List Entry)
      → ((s : State) → Adds cs es (go s) (goEntries s) (goMoves s))
      → ((q : Question) → Adds cs es (fork q) (forkEntries q) (forkMoves q))
      → (x : Next)
      → Adds cs es (settle go fork n input cs es x) (gather goEntries forkEntries n input x) (count_next goMoves forkMoves x)
  unfolding settle gather count_next owed owed_from owed_moves owed_moves_from
  settle_adds go fork goEntries forkEntries goMoves forkMoves n input cs es hg hf demands = (append_assoc es _ _, omega arith)
  settle_adds go fork goEntries forkEntries goMoves forkMoves n input cs es hg hf lacks = (append_assoc es _ _, omega arith)
  settle_adds go fork goEntries forkEntries goMoves forkMoves n input cs es hg hf (stops why) = (append_assoc es _ _, omega arith)
  settle_adds go fork goEntries forkEntries goMoves forkMoves n input cs es hg hf (goes s) = hg s
  settle_adds go fork goEntries forkEntries goMoves forkMoves n input cs es hg hf (waits q) = hf q

  -- a path that arrives at a state adds the entries of the search from there
  arrive_adds :
      (left n : ℕ) (input : Parts) (s : State) (cs : List Choice) (es : List Entry)
      → Adds cs es (arrive p table left n input s cs es) (search p table left n input s) (path_moves p table left input s)
  unfolding arrive search path_moves choices_owed choices_moves owed owed_from owed_moves owed_moves_from flat_map total
  arrive_adds zero n input s cs es =
      rw (← count_none (next p input s))
      (settle_adds _ _ _ _ _ _ n input cs es (λ s'. (append_assoc es _ _, omega arith)) (λ q. (append_assoc es _ _, omega arith)) (next p input s))
  arrive_adds (suc left) n input s cs es = settle_adds _ _ _ _ _ _ n input cs es (λ s'. (refl, refl)) (λ q. (refl, refl)) (next p input s)

  -- behind the end of a path: the entries are kept, and one of the moves that the choice points owe is made, if there is one
  abbrev Returns : List Choice → List Entry → Type 0
  Returns cs es = Yields (return p table cs es) (es ++ choices_owed cs) (pred (choices_moves p table cs))

  -- the last choice point goes on to its next constructor, or, if none is left, hands over to the one before it
  return_choice : (c : Choice) (untried : List Fork) (cs : List Choice) (es : List Entry) → Returns cs es → Returns (with_untried c untried ∷ cs) es
  unfolding return take_fork choices_owed choices_moves flat_map total
  return_choice c [] cs es h = (h.0, h.1 ∙ omega arith)
  return_choice c (f ∷ rest) cs es h =
      let a = arrive_adds c.left c.done (input_behind c.question f c.input) (state_behind c.question f) (with_untried c rest ∷ cs) es in
      (rw append_assoc a.0, a.1 ∙ omega arith)

  returns : (cs : List Choice) (es : List Entry) → Returns cs es
  unfolding return choices_moves owed owed_from owed_moves owed_moves_from total
  returns [] es = (refl, refl)
  returns (c ∷ cs) es = return_choice c c.untried cs es (returns cs es)

  -- a move keeps the entries, and makes one of the moves to come, if there is one
  move_holds : (w : Walk) → Yields (move p table w) (w.listed ++ owed w) (pred (owed_moves p table w))
  unfolding move move_from owed owed_from owed_moves owed_moves_from
  move_holds w = from w.position
    where
      from : (x : Position)
          → Yields (move_from p table x w.choices w.listed) (w.listed ++ owed_from x w.choices) (pred (owed_moves_from p table x w.choices))
      from (on g) =
          let a = arrive_adds g.left g.done g.input g.state w.choices w.listed in
          (a.0, a.1 ∙ omega arith)
      from over = returns w.choices w.listed

  -- a move keeps the entries listed together with those still to come
  pub move_keeps : (w : Walk) → (move p table w).listed ++ owed (move p table w) ≡ w.listed ++ owed w
  move_keeps w = (move_holds w).0

  -- each move is one less to come
  pub move_falls : (w : Walk) (k : ℕ) → owed_moves p table w ≡ suc k → owed_moves p table (move p table w) ≡ k
  move_falls w k e = omega (arith, (move_holds w).1)

  -- where no move is to come, no entry is
  pub nothing_owed : (w : Walk) → owed_moves p table w ≡ 0 → owed w ≡ []
  unfolding owed owed_moves owed_from owed_moves_from choices_owed choices_moves
  nothing_owed w e = from w.position e
    where
      from : (x : Position) → owed_moves_from p table x w.choices ≡ 0 → owed_from x w.choices ≡ []
      from (on g) z = absurd (omega arith)
      from over z = flat_map_none _ _ (λ c. flat_map_none _ _ (λ f (y : suc _ ≡ 0). absurd (omega arith)) c.untried) w.choices z

  -- a search without moves to come has listed all that it lists
  listed_all : (w : Walk) → owed_moves p table w ≡ 0 → w.listed ++ owed w ≡ w.listed
  listed_all w e = rw (nothing_owed w e) (append-nil w.listed)

  -- a search that is over stays over: no move is to come, and the listed entries stay
  pub move_rests : (w : Walk) → owed_moves p table w ≡ 0 → (owed_moves p table (move p table w) ≡ 0) × ((move p table w).listed ≡ w.listed)
  move_rests w e =
      let z : owed_moves p table (move p table w) ≡ 0 = omega (arith, (move_holds w).1) in
      (z, sym (listed_all (move p table w) z) ∙ move_keeps w ∙ listed_all w e)

  -- after m moves: the entries are kept, and m moves less are to come
  pub moves_keep :
      (m : ℕ) (w : Walk)
      → ((moves p table m w).listed ++ owed (moves p table m w) ≡ w.listed ++ owed w) × (owed_moves p table (moves p table m w) ≡ owed_moves p table w - m)
  unfolding moves
  moves_keep zero w = (refl, omega arith)
  moves_keep (suc m) w =
      let h = moves_keep m (move p table w) in
      (h.0 ∙ move_keeps w, h.1 ∙ omega (arith, (move_holds w).1))

-- the moves list the entries of the program, and come to an end
pub moves_list : (p : Program) → ((finished p).listed ≡ entries p) × (owed_moves p (least_depths p.types) (finished p) ≡ 0)
unfolding opening entries choices_owed flat_map
moves_list p =
    let table = least_depths p.types in
    let h = moves_keep p table (owed_moves p table (opening p table)) (opening p table) in
    let z : owed_moves p table (finished p) ≡ 0 = h.1 ∙ omega arith in
    (sym (listed_all p table (finished p) z) ∙ h.0 ∙ (arrive_adds p table p.steps 0 (open_input p) (start p) [] []).0 ∙ append-nil (entries p), z)
