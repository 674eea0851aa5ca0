-- The words beyond those of the vertices and edges: as before, if each of them is.
use Rattle.std.proofs.Common.{◌≡◌, ℕ, ◌+◌, ◌-◌, ◌*◌, ◌≤◌, List, length, get_or, drop, sym, ap, ◌∙◌, arith, length-drop, get_or-drop, ext_get_or}
use Rattle.numbers.specs.declared.Limits.{Limits}
use Rattle.table.specs.Inside.Column
use Rattle.forest.specs.Promise.{words_needed, SameBeyond}
use Rattle.forest.proofs.Frames.{Frame}

-- tables of one length that agree from a place on are the same from there on
drop-same : (k : ℕ) (old new : List ℕ) → length new ≡ length old
    → ((p : ℕ) → k ≤ p → get_or new p 0 ≡ get_or old p 0) → drop k new ≡ drop k old
drop-same k old new e f =
    ext_get_or
    0
    (drop k new)
    (drop k old)
    (length-drop k new ∙ ap (λ (n : ℕ). n - k) e ∙ sym (length-drop k old))
    (λ i h. get_or-drop k new i 0 ∙ f (k + i) (omega arith) ∙ sym (get_or-drop k old i 0))

-- where only columns of vertices and edges differ, the words beyond them are as before
pub frame_beyond : {limits : Limits} {vs es old new : List ℕ} → Frame limits vs es old new → SameBeyond limits old new
unfolding words_needed
frame_beyond {limits} {vs} {es} {old} {new} f =
    record { as_long = f.same_length; beyond = drop-same (limits.vertices * Column.per_vertex + limits.edges * Column.per_edge) old new f.same_length f.beyond }
