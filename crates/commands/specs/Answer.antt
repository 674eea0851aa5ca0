-- The answers and notices, and their fields.
use Rattle.std.specs.Prelude.{Bool, true, false, List, [], ◌∷◌, ◌++◌, map, ℕ, length}
use Rattle.naming.specs.Rename.{Change, changes_between}
use Rattle.naming.specs.Book.{Book}
use Rattle.naming.specs.Lookup.{Group}
use Rattle.commands.specs.Field.{Kind, district, ring, mesh, Field, cabinet, span, name, number, byte, fields_bytes}

unfoldable pub kind_byte : Kind → ℕ
kind_byte district = 0x01
kind_byte ring = 0x02
kind_byte mesh = 0x03

-- An item's new name, of one kind: items of districts and rings are cabinets, items of meshes are spans.
pub record Notice : Type 0 where
  pub kind : Kind
  pub item : ℕ
  pub name : ℕ

-- An item of a kind of groups.
unfoldable pub item_field : Kind → ℕ → Field
item_field district n = cabinet n
item_field ring n = cabinet n
item_field mesh n = span n

unfoldable pub notice_fields : Notice → List Field
notice_fields t = byte (kind_byte t.kind) ∷ item_field t.kind t.item ∷ name t.kind t.name ∷ []

unfoldable pub notices_fields : List Notice → List Field
notices_fields [] = []
notices_fields (t ∷ ts) = notice_fields t ++ notices_fields ts

-- An item's new name as a notice of a kind.
unfoldable pub change_notice : Kind → Change → Notice
change_notice kind c = record { kind = kind; item = c.item; name = c.name }

-- The items that had a name of this kind before and have another now, rising, each with its new name.
unfoldable pub changes : Kind → List ℕ → List ℕ → List Notice
changes kind old new = map (change_notice kind) (changes_between old new)

-- The notices of a command, from the names before it and after it: by kind, then item.
unfoldable pub notices : Book → Book → List Notice
notices b b' =
    changes district b.components b'.components
    ++ changes ring b.bridge_blocks b'.bridge_blocks
    ++ changes mesh b.blocks b'.blocks

-- The answers to commands that add nothing: they bring no notices. A district or ring is told by its name and its size (request 8). Lists
-- are in travelling order.
pub data Plain : Type 0 where
  district_is : Group → Plain
  ring_is : Group → Plain
  mesh_shared : ℕ → Plain
  no_mesh_shared : Plain
  sole_spans_are : List ℕ → Plain
  cut_cabinets_are : List ℕ → Plain
  sole_is : Bool → Plain
  exchange_marked : Plain
  exchange_held : Bool → Plain
  routes_are : List ℕ → List ℕ → Plain
  length_recorded : Plain
  length_is : ℕ → Plain
  no_length : Plain
  share_is : ℕ → Plain

-- An added span is answered with its number, its mesh name and the notices.
pub data Answer : Type 0 where
  cabinet_added : ℕ → Answer
  span_added : ℕ → ℕ → List Notice → Answer
  plain : Plain → Answer

unfoldable pub bool_byte : Bool → ℕ
bool_byte true = 1
bool_byte false = 0

unfoldable pub plain_fields : Plain → List Field
plain_fields (district_is g) = byte 0x83 ∷ name district g.name ∷ number g.size ∷ []
plain_fields (ring_is g) = byte 0x84 ∷ name ring g.name ∷ number g.size ∷ []
plain_fields (mesh_shared n) = byte 0x85 ∷ byte 1 ∷ name mesh n ∷ []
plain_fields no_mesh_shared = byte 0x85 ∷ byte 0 ∷ number 0 ∷ []
plain_fields (sole_spans_are ss) = byte 0x86 ∷ number (length ss) ∷ map span ss
plain_fields (cut_cabinets_are cs) = byte 0x87 ∷ number (length cs) ∷ map cabinet cs
plain_fields (sole_is sole) = byte 0x88 ∷ byte (bool_byte sole) ∷ []
plain_fields exchange_marked = byte 0x89 ∷ []
plain_fields (exchange_held held) = byte 0x8A ∷ byte (bool_byte held) ∷ []
plain_fields (routes_are ss ts) = byte 0x8C ∷ number (length ss) ∷ map span ss ++ number (length ts) ∷ map span ts
plain_fields length_recorded = byte 0x8D ∷ []
plain_fields (length_is metres) = byte 0x8E ∷ byte 1 ∷ number metres ∷ []
plain_fields no_length = byte 0x8E ∷ byte 0 ∷ number 0 ∷ []
plain_fields (share_is n) = byte 0x8F ∷ number n ∷ []

unfoldable pub answer_fields : Answer → List Field
answer_fields (cabinet_added k) = byte 0x81 ∷ cabinet k ∷ []
answer_fields (span_added s n ts) = byte 0x82 ∷ span s ∷ name mesh n ∷ number (length ts) ∷ notices_fields ts
answer_fields (plain p) = plain_fields p

unfoldable pub answer_bytes : Answer → List ℕ
answer_bytes a = fields_bytes (answer_fields a)
