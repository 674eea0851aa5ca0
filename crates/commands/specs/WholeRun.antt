-- The whole-run claim (demand 3): one statement about the whole list of accepted commands and the answer buffer on return.
use Rattle.std.specs.Prelude.{Bool, cond, List, [], ◌∷◌, ◌≡◌, ℕ, suc, ◌+◌, ◌*◌, ◌≤◌, ◌<◌, eqb, length, take, get_or}
use Rattle.graph.specs.Network.{Network, Rule, edge_count}
use Rattle.graph.specs.Groups.{component, bridge_block}
use Rattle.graph.specs.Block.{block}
use Rattle.naming.specs.Rename.{Grouping, size}
use Rattle.naming.specs.Log.{whole_log2}
use Rattle.commands.specs.Command.{Command}
use Rattle.commands.specs.Field.{Kind, district, ring, mesh}
use Rattle.commands.specs.Answer.{Notice, Answer, cabinet_added, span_added, plain, no_mesh_shared, kind_byte}
use Rattle.commands.specs.Entry.{book_after}
use Rattle.commands.specs.Decode.{decode_first}
use Rattle.commands.specs.NameList.{no_names, hear_all, names_of}

-- The groups of a kind, and how many items of that kind there are: districts and rings are measured in cabinets, meshes in spans.
unfoldable pub groups_of : Kind → Network → Grouping
groups_of district = component
groups_of ring = bridge_block
groups_of mesh = block

unfoldable pub items_of : Kind → Network → ℕ
items_of district g = g.vertices
items_of ring g = g.vertices
items_of mesh g = edge_count g

-- The size of the group that holds the item.
unfoldable pub group_size : Kind → Network → ℕ → ℕ
group_size kind g x = size (items_of kind g) (groups_of kind g) x

unfoldable pub notices_in : Answer → List Notice
notices_in (cabinet_added k) = []
notices_in (span_added s name ts) = ts
notices_in (plain p) = []

unfoldable pub same_kind : Kind → Kind → Bool
same_kind kind other = eqb (kind_byte kind) (kind_byte other)

-- How many notices of a kind there are, in a list of notices and over all answers.
unfoldable pub count_notices : Kind → List Notice → ℕ
count_notices kind [] = 0
count_notices kind (t ∷ ts) =
    let rest = count_notices kind ts in
    cond (same_kind kind t.kind) (suc rest) rest

unfoldable pub count_kind : Kind → List Answer → ℕ
count_kind kind [] = 0
count_kind kind (a ∷ later) = count_notices kind (notices_in a) + count_kind kind later

-- The notice moves its item into a group at least twice the size of the one it left.
abbrev pub Doubles : Network → Network → Notice → Type 0
Doubles g g' t = 2 * group_size t.kind g t.item ≤ group_size t.kind g' t.item

abbrev pub EachNotice : (Notice → Type 0) → List Notice → Type 0
EachNotice P [] = Unit
EachNotice P (t ∷ ts) = P t × EachNotice P ts

-- What holds after the first k of the accepted commands, where the answers are the first k that the answer buffer holds.
pub record HoldsAfter (rule : Rule) (commands : List Command) (buffer : List ℕ) (k : ℕ) : Type 0 where
  -- the buffer holds that many answers
  pub answered : length (decode_first k buffer) ≡ k
  -- the name list fed them holds the numbers and names that the book holds
  pub same_names : hear_all no_names (decode_first k buffer) ≡ names_of (book_after rule (take k commands))
  -- with n cabinets and m spans by then: at most n log2 n district and ring notices, and m log2 m mesh notices; none at 0
  pub few_notices : (kind : Kind)
      → let items = items_of kind (book_after rule (take k commands)).network in
      count_kind kind (decode_first k buffer) ≤ items * whole_log2 items

-- What holds of the notices of answer i, counted from 0.
abbrev pub AnswerDoubles : Rule → List Command → List ℕ → ℕ → Type 0
AnswerDoubles rule commands buffer i =
    EachNotice
    (Doubles (book_after rule (take i commands)).network (book_after rule (take (suc i) commands)).network)
    (notices_in (get_or (decode_first (suc i) buffer) i (plain no_mesh_shared)))

-- The claim about the accepted commands of a run, of every kind, and the answer buffer as it stands on return: after each number of
-- the commands, from none to all.
pub record WholeRunClaim (rule : Rule) (commands : List Command) (buffer : List ℕ) : Type 0 where
  pub holds_after : (k : ℕ) → k ≤ length commands → HoldsAfter rule commands buffer k
  pub notices_double : (i : ℕ) → i < length commands → AnswerDoubles rule commands buffer i
