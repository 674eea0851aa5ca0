-- The planner's name list (document 01): fed the answers in order, it starts empty.
use Rattle.std.specs.Prelude.{cond, List, [], ◌∷◌, ◌++◌, map, ℕ, eqb}
use Rattle.graph.specs.Below.{tabulate}
use Rattle.graph.specs.Network.{edge_count}
use Rattle.naming.specs.Rename.{name_of}
use Rattle.naming.specs.Book.{Book}
use Rattle.commands.specs.Field.{Kind, district, ring, mesh}
use Rattle.commands.specs.Answer.{Notice, Answer, cabinet_added, span_added, plain}

-- A cabinet or span number with its name.
pub record Named : Type 0 where
  pub item : ℕ
  pub name : ℕ

-- The district and ring names of cabinets, and the mesh names of spans.
pub record NameList : Type 0 where
  pub districts : List Named
  pub rings : List Named
  pub meshes : List Named

unfoldable pub no_names : NameList
no_names = record { districts = []; rings = []; meshes = [] }

-- Item x gets the name, wherever it is listed.
unfoldable pub set_name : ℕ → ℕ → List Named → List Named
set_name x name = map (λ e. record { item = e.item; name = cond (eqb e.item x) name e.name })

unfoldable pub set_name_of : Kind → ℕ → ℕ → NameList → NameList
set_name_of district x name l = record { districts = set_name x name l.districts; rings = l.rings; meshes = l.meshes }
set_name_of ring x name l = record { districts = l.districts; rings = set_name x name l.rings; meshes = l.meshes }
set_name_of mesh x name l = record { districts = l.districts; rings = l.rings; meshes = set_name x name l.meshes }

-- Each notice in turn sets its item's name of that kind.
unfoldable pub apply_notices : List Notice → NameList → NameList
apply_notices [] l = l
apply_notices (t ∷ ts) l = apply_notices ts (set_name_of t.kind t.item t.name l)

-- 81 adds the cabinet answered, with its number as district and ring name.
unfoldable pub add_cabinet_named : ℕ → NameList → NameList
add_cabinet_named k l =
    record {
      districts = l.districts ++ record { item = k; name = k } ∷ [];
      rings = l.rings ++ record { item = k; name = k } ∷ [];
      meshes = l.meshes;
    }

-- 82 adds the span answered, with the mesh name answered.
unfoldable pub add_span_named : ℕ → ℕ → NameList → NameList
add_span_named s name l =
    record { districts = l.districts; rings = l.rings; meshes = l.meshes ++ record { item = s; name = name } ∷ [] }

-- The name list after one more answer. Answers other than 81 and 82 change nothing.
unfoldable pub hear : NameList → Answer → NameList
hear l (cabinet_added k) = add_cabinet_named k l
hear l (span_added s name ts) = apply_notices ts (add_span_named s name l)
hear l (plain p) = l

unfoldable pub hear_all : NameList → List Answer → NameList
hear_all l [] = l
hear_all l (a ∷ later) = hear_all (hear l a) later

-- The numbers below n, each with its name.
unfoldable pub named : ℕ → List ℕ → List Named
named n names = tabulate n (λ x. record { item = x; name = name_of names x })

-- What the naming book holds: cabinet numbers and span numbers, each with its names.
unfoldable pub names_of : Book → NameList
names_of b =
    record {
      districts = named b.network.vertices b.components;
      rings = named b.network.vertices b.bridge_blocks;
      meshes = named (edge_count b.network) b.blocks;
    }
