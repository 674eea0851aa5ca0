-- What an accepted rewriting gives: as many commands, each other than 02 as it was, and each 02 as 0B with the same ends and, as its duct,
-- one more than there are 02 before it. It is answered as the journal was.
use mathlib.Core.Bool.{Bool, true, false, not, cond}
use mathlib.Core.List.{List, [], ◌∷◌, map}
use mathlib.Core.Logic.{◌⊎◌, inl, inr, ◌≢◌}
use mathlib.Core.Option.{none, some}
use mathlib.Core.Path.{◌≡◌, refl, sym, ◌∙◌, ap, subst}
use Prim.Native.Nat.{ℕ, zero, suc, ◌+◌}
use native.Mathlib.Nat.{zero-add}
use native.Mathlib.Omega.{arith}
use lib.Dec.{eqb}
use lib.ListN.{length, take, get_elem?}
use Rattle.graph.specs.Lists.{all_in}
use Rattle.graph.specs.Network.{edge_between}
use Rattle.graph.proofs.Truth.{and_left, and_right}
use Rattle.commands.specs.Bytes.{all_bytes}
use Rattle.commands.specs.Command.{Command, add_span, add_duct_span, command_byte}
use Rattle.commands.specs.Facts.{facts, addition_of, addition}
use Rattle.commands.specs.Text.{text_of, commands_in}
use Rattle.commands.specs.Ducts.{ductless, ductless_journal}
use Rattle.commands.specs.Forecast.{is_span}
use Rattle.commands.specs.Rewrite.{rewritten_bytes, in_own_duct, rewrite_command, rewrite_from, rewrite_commands, rewrite, AnsweredAsBefore}
use Rattle.commands.proofs.Cases.{impossible}
use Rattle.commands.proofs.EachRewritten.{Is02, Unchanged, each_rewritten}
use Rattle.commands.proofs.Spelled.{commands_of_reads}
use Rattle.commands.proofs.ForecastExactly.{forecast_nought_exactly}
use Rattle.commands.proofs.RewriteExactly.{rewrite_nought_exactly, rewrite_with_nought}
use Rattle.commands.proofs.Rewritten.{result_read_back, answered_as_before}

-- 02 becomes 0B with the same ends and the duct of its number plus 1
pub span_rewritten : (spans x y : ℕ) → rewrite_command spans (add_span x y) ≡ add_duct_span x y (spans + 1)
unfolding rewrite_command in_own_duct facts edge_between
span_rewritten spans x y = refl

-- and any other command than 0B stays
pub other_rewritten : (spans : ℕ) (c : Command) → command_byte c ≢ 0x02 → not (eqb (command_byte c) 0x0B) ≡ true → rewrite_command spans c ≡ c
other_rewritten spans c not_02 other = go (each_rewritten c other)
  where
    go : Is02 c ⊎ Unchanged c → rewrite_command spans c ≡ c
    go (inl w) = unfold command_byte in absurd (not_02 (ap command_byte w.is))
    go (inr left) = left.as_it_is spans

-- how many of the commands are 02
unfoldable pub count02 : List Command → ℕ
count02 [] = 0
count02 (c ∷ later) =
    let rest = count02 later in
    cond (eqb (command_byte c) 0x02) (suc rest) rest

-- a command other than 0B adds a span exactly if it is 02
adds_if_02 : (c : Command) → not (eqb (command_byte c) 0x0B) ≡ true → is_span (addition c) ≡ eqb (command_byte c) 0x02
adds_if_02 c other = go (each_rewritten c other)
  where
    go : Is02 c ⊎ Unchanged c → is_span (addition c) ≡ eqb (command_byte c) 0x02
    go (inl w) = rw w.is (unfold addition addition_of is_span facts command_byte in refl)
    go (inr left) = left.adds_none ∙ sym left.not_02

-- one more of them, and so many, are as many as so many and one more
one_span_more : (adds : Bool) (spans n : ℕ) → cond adds (suc spans) spans + n ≡ spans + cond adds (suc n) n
one_span_more true spans n = omega arith
one_span_more false spans n = refl

-- of commands without 0B, command k is not 0B
kth_is_other : (k : ℕ) (cs : List Command) (c : Command) → ductless cs ≡ true → get_elem? cs k ≡ some c
    → not (eqb (command_byte c) 0x0B) ≡ true
unfolding ductless all_in
kth_is_other k [] c free e = impossible (cc)
kth_is_other zero (d ∷ later) c free e =
    let same : d ≡ c = cc in subst (λ b. not (eqb (command_byte b) 0x0B) ≡ true) same (and_left (not (eqb (command_byte d) 0x0B)) _ free)
kth_is_other (suc k) (d ∷ later) c free e = kth_is_other k later c (and_right (not (eqb (command_byte d) 0x0B)) _ free) e

-- and is rewritten with the 02 before it
kth_rewritten : (spans k : ℕ) (cs : List Command) (c : Command) → ductless cs ≡ true → get_elem? cs k ≡ some c
    → get_elem? (rewrite_from spans cs) k ≡ some (rewrite_command (spans + count02 (take k cs)) c)
unfolding rewrite_from count02 ductless all_in
kth_rewritten spans k [] c free e = impossible (cc)
kth_rewritten spans zero (d ∷ later) c free e =
    let same : d ≡ c = cc in
    let none : spans ≡ spans + 0 = omega arith in
    ap (λ b. some (rewrite_command spans b)) same ∙ ap (λ n. some (rewrite_command n c)) none
kth_rewritten spans (suc k) (d ∷ later) c free e =
    let other = not (eqb (command_byte d) 0x0B) in
    kth_rewritten (cond (is_span (addition d)) (suc spans) spans) k later c (and_right other _ free) e
    ∙ ap (λ adds. some (rewrite_command (cond adds (suc spans) spans + count02 (take k later)) c)) (adds_if_02 d (and_left other _ free))
    ∙ ap (λ n. some (rewrite_command n c)) (one_span_more (eqb (command_byte d) 0x02) spans (count02 (take k later)))

-- they are as many as before
as_many_rewritten : (spans : ℕ) (cs : List Command) → length (rewrite_from spans cs) ≡ length cs
unfolding rewrite_from
as_many_rewritten spans [] = refl
as_many_rewritten spans (c ∷ later) = ap suc (as_many_rewritten (cond (is_span (addition c)) (suc spans) spans) later)

-- The one text is that of the other, rewritten.
pub record RewrittenText (journal result : List ℕ) : Type 0 where
  pub read_whole : (text_of result).refusal ≡ none
  pub as_many : length (commands_in result) ≡ length (commands_in journal)
  pub each_span : (k x y : ℕ) → get_elem? (commands_in journal) k ≡ some (add_span x y)
      → get_elem? (commands_in result) k ≡ some (add_duct_span x y (count02 (take k (commands_in journal)) + 1))
  pub each_other : (k : ℕ) (c : Command) → get_elem? (commands_in journal) k ≡ some c → command_byte c ≢ 0x02
      → get_elem? (commands_in result) k ≡ some c

-- commands without 0B rewritten, where they are those of a text that is read whole
rewritten_text : (journal result : List ℕ) → ductless (commands_in journal) ≡ true → (text_of result).refusal ≡ none
    → commands_in result ≡ rewrite_commands (commands_in journal) → RewrittenText journal result
unfolding rewrite_commands
rewritten_text journal result free whole are =
    record {
      read_whole = whole;
      as_many = ap length are ∙ as_many_rewritten 0 (commands_in journal);
      each_span = λ k x y e. at k (add_span x y) e ∙ ap some (span_rewritten (count02 (take k (commands_in journal))) x y);
      each_other = λ k c e not_02. at k c e ∙ ap some (other_rewritten (count02 (take k (commands_in journal))) c not_02 (kth_is_other k (commands_in journal) c free e));
    }
  where
    at : (k : ℕ) (c : Command) → get_elem? (commands_in journal) k ≡ some c
        → get_elem? (commands_in result) k ≡ some (rewrite_command (count02 (take k (commands_in journal))) c)
    at k c e =
        ap (λ l. get_elem? l k) are
        ∙ kth_rewritten 0 k (commands_in journal) c free e
        ∙ ap (λ n. some (rewrite_command n c)) (zero-add (count02 (take k (commands_in journal))))

-- The result of an accepted rewriting is read so.
pub rewrite_read_back : (room : ℕ) (journal : List ℕ) → all_bytes journal ≡ true → (rewrite room journal).number ≡ 0
    → RewrittenText journal (rewrite room journal).result
unfolding ductless_journal
rewrite_read_back room journal are e =
    let f = (rewrite_nought_exactly room journal).0 e in
    let (short, whole) = (forecast_nought_exactly journal).0 f.0 in
    let back = result_read_back journal are short whole f.1.0 f.1.1.0 in
    subst (RewrittenText journal) (sym (ap (λ r. r.result) (rewrite_with_nought room journal e)))
    (rewritten_text journal (rewritten_bytes journal) f.1.0 (ap (λ t. t.refusal) back)
    (ap (λ t. map (λ r. r.command) t.commands) back ∙ commands_of_reads 0 (rewrite_commands (commands_in journal))))

-- And it is answered as the journal was.
pub rewrite_answered : (room : ℕ) (journal : List ℕ) → all_bytes journal ≡ true → (rewrite room journal).number ≡ 0
    → AnsweredAsBefore journal (rewrite room journal).result
rewrite_answered room journal are e =
    let f = (rewrite_nought_exactly room journal).0 e in
    let (short, whole) = (forecast_nought_exactly journal).0 f.0 in
    subst (AnsweredAsBefore journal) (sym (ap (λ r. r.result) (rewrite_with_nought room journal e)))
    (answered_as_before journal are short whole f.1.0 f.1.1.0)
