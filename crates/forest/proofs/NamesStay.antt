-- Where no group changes, no name does.
use Rattle.std.proofs.Common.{◌≡◌, ℕ, ◌<◌, false, cond, not, ◌&&◌, List, length, ap, ◌∙◌, ext_get_or}
use Rattle.graph.proofs.Truth.{false_of_not, not_both, and_left, and_right, false_of_not_true}
use Rattle.graph.proofs.Below.{some_below}
use Rattle.naming.specs.Rename.{Grouping, name_of, holds_several, best_name, rename}
use Rattle.naming.proofs.Rename.{AgreeBelow, length_rename, name_of_rename}

-- a group that does not change holds no other
holds_no_other : (before after : Grouping) (names : List ℕ) → AgreeBelow (length names) before after
    → (x : ℕ) → x < length names → holds_several before after names x ≡ false
unfolding holds_several
holds_no_other before after names agree x h =
    false_of_not
    (holds_several before after names x)
    (λ q.
    let b = some_below (length names) (λ y. after x y && not (before x y)) q in
    let p = b.passes in
    not_both
    (agree x b.at h b.below ∙ and_left (after x b.at) (not (before x b.at)) p)
    (false_of_not_true (before x b.at) (and_right (after x b.at) (not (before x b.at)) p)))

-- the names are those before
pub rename_stays : (before after : Grouping) (names : List ℕ) → AgreeBelow (length names) before after → rename before after names ≡ names
unfolding name_of
rename_stays before after names agree =
    ext_get_or
    0
    (rename before after names)
    names
    (length_rename before after names)
    (λ x l.
    let h : x < length names = rw (length_rename before after names) at l in
    name_of_rename before after names x h
    ∙ ap (λ b. cond b (best_name before after names x) (name_of names x)) (holds_no_other before after names agree x h))
