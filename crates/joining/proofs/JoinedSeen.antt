-- What a planner reads off the answers to a result (request 9).
use mathlib.Core.List.{List, [], ◌∷◌, map}
use mathlib.Core.Path.{◌≡◌, refl, ap}
use Prim.Native.Nat.{ℕ, zero, suc, ◌<◌}
use native.Mathlib.Omega.{arith}
use lib.ListN.{length, take, get_or}
use Rattle.naming.specs.State.{State}
use Rattle.commands.specs.Answer.{Answer}
use Rattle.commands.specs.Facts.{after, state_after}
use Rattle.commands.specs.Run.{Accepted}
use Rattle.commands.specs.Join.{Seam, RaisedAnswer, RaisedAnswers, SeamAnswers}

-- there are as many answers as commands
pub as_many_raised : (one s : State) (l : List Accepted) (answers : List Answer) → RaisedAnswers one s l answers → length answers ≡ length l
as_many_raised one s [] [] w = refl
as_many_raised one s [] (now ∷ answers) w = absurd w
as_many_raised one s (a ∷ l) [] w = absurd w
as_many_raised one s (a ∷ l) (now ∷ answers) w = ap suc (as_many_raised one (after s a.command) l answers w.1)

-- each command is answered so in the state that the commands before it leave
pub raised_at : (one s : State) (l : List Accepted) (answers : List Answer) → RaisedAnswers one s l answers
    → (i : ℕ) → i < length l → (a : Accepted) (now : Answer)
    → RaisedAnswer one (state_after s (take i (map (λ a. a.command) l))) (get_or l i a) (get_or answers i now)
unfolding state_after
raised_at one s [] answers w i h a' now' = absurd (omega (arith, h))
raised_at one s (a ∷ l) [] w i h a' now' = absurd w
raised_at one s (a ∷ l) (now ∷ answers) w zero h a' now' = w.0
raised_at one s (a ∷ l) (now ∷ answers) w (suc i) h a' now' = raised_at one (after s a.command) l answers w.1 i (omega (arith, h)) a' now'

-- there are as many answers as seams
pub as_many_seams : (next : ℕ) (xs : List Seam) (answers : List Answer) → SeamAnswers next xs answers → length answers ≡ length xs
as_many_seams next [] [] w = refl
as_many_seams next [] (now ∷ answers) w = absurd w
as_many_seams next (x ∷ xs) [] w = absurd w
as_many_seams next (x ∷ xs) (now ∷ answers) w = ap suc (as_many_seams (suc next) xs answers w.1)
