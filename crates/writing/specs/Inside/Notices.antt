-- The notices in the code's own types.
use Rattle.std.specs.Prelude.{◌≡◌, length, refl}
use Rattle.commands.specs.Bytes.{two_bytes}
use Rattle.commands.specs.Field as Paper
use Rattle.commands.specs.Field.{district, ring, mesh, field_bytes, fields_bytes}
use Rattle.commands.specs.Answer as Answers
use Rattle.commands.specs.Answer.{item_field, notice_fields}
use Rattle.writing.specs.declared.notice.Kind.{Kind}
use Rattle.writing.specs.declared.notice.Kind.TheVariants as K
use Rattle.writing.specs.declared.notice.Notice.{Notice}
use Rattle.writing.specs.declared.notice.Notice.TheVariants as N

-- The kinds of names.
unfoldable pub kind_of : Kind → Paper.Kind
kind_of K.District = district
kind_of K.Ring = ring
kind_of K.Mesh = mesh

-- The paper's notice.
unfoldable pub notice_of : Notice → Answers.Notice
notice_of (N.District c) = record { kind = district; item = c.item.0; name = c.name.0 }
notice_of (N.Ring c) = record { kind = ring; item = c.item.0; name = c.name.0 }
notice_of (N.Mesh c) = record { kind = mesh; item = c.item.0; name = c.name.0 }

-- it has five bytes
pub length_notice : (n : Notice) → length (fields_bytes (notice_fields (notice_of n))) ≡ 5
unfolding notice_of notice_fields item_field fields_bytes field_bytes two_bytes
length_notice (N.District c) = refl
length_notice (N.Ring c) = refl
length_notice (N.Mesh c) = refl
