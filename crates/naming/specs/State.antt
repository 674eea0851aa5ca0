-- The state of a run: what the commands accepted so far have left.
use Rattle.std.specs.Prelude.{Bool, false, ◌&&◌, ◌||◌, List, [], ◌∷◌, ◌++◌, ◌≡◌, ℕ, eqb}
use Rattle.graph.specs.Below.{count}
use Rattle.graph.specs.Network.{Rule}
use Rattle.graph.specs.Groups.{bridge_block}
use Rattle.naming.specs.Book.{Book, Addition, empty_book, feed}
use Rattle.naming.specs.Survey.{Survey, holding}

pub record State : Type 0 where
  -- the naming book of what they added
  pub book : Book
  -- which vertices they marked (document 02: exchanges)
  pub marked : ℕ → Bool
  -- the surveys of edges, in the order in which they were entered (document 02: survey lengths)
  pub surveys : List Survey

-- At first the book is empty, no vertex is marked, and no survey entered.
unfoldable pub empty_state : Rule → State
empty_state rule = record { book = empty_book rule; marked = λ x. false; surveys = [] }

-- The state after a command that adds a vertex, an edge, or neither.
unfoldable pub after_addition : State → Addition → State
after_addition s a = record { book = feed s.book a; marked = s.marked; surveys = s.surveys }

-- What a command records beside the book: nothing, a mark of a vertex, or a survey of an edge.
pub data Recording : Type 0 where
  records_nothing : Recording
  records_mark : ℕ → Recording
  records_survey : Survey → Recording

-- The marks after it.
unfoldable pub marks_after : (ℕ → Bool) → Recording → ℕ → Bool
marks_after marked records_nothing = marked
marks_after marked (records_mark x) = λ y. eqb y x || marked y
marks_after marked (records_survey r) = marked

-- The surveys after it.
unfoldable pub surveys_after : List Survey → Recording → List Survey
surveys_after surveys records_nothing = surveys
surveys_after surveys (records_mark x) = surveys
surveys_after surveys (records_survey r) = surveys ++ r ∷ []

-- The state after what a command records. The book is as before.
unfoldable pub after_recording : State → Recording → State
after_recording s r = record { book = s.book; marked = marks_after s.marked r; surveys = surveys_after s.surveys r }

-- How many of the vertices in x's bridge-block are marked.
unfoldable pub marks_with : State → ℕ → ℕ
marks_with s x = count s.book.network.vertices (λ y. bridge_block s.book.network x y && s.marked y)

-- Two states agree: one book, the same vertices marked, and for each edge the same record holds. (`agree_text`: no run tells them apart.)
pub record Agree (s s' : State) : Type 0 where
  pub same_book : s.book ≡ s'.book
  pub same_marks : (x : ℕ) → s.marked x ≡ s'.marked x
  pub same_records : (e : ℕ) → holding s.surveys e ≡ holding s'.surveys e
