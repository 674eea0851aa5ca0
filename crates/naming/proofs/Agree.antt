-- States that agree.
use mathlib.Core.Path.{◌≡◌, ◌∙◌, ap}
use Rattle.naming.specs.Survey.{holding}
use Rattle.naming.specs.State.{State, Agree}

-- equal states agree
pub agree_of_equal : {s s' : State} → s ≡ s' → Agree s s'
agree_of_equal e =
    record {
      same_book = ap (λ (s : State). s.book) e;
      same_marks = λ x. ap (λ (s : State). s.marked x) e;
      same_records = λ y. ap (λ (s : State). holding s.surveys y) e;
    }

-- what agrees with a state that agrees with a third agrees with that
pub agree_both : {s s' s'' : State} → Agree s s' → Agree s' s'' → Agree s s''
agree_both a b =
    record {
      same_book = a.same_book ∙ b.same_book;
      same_marks = λ x. a.same_marks x ∙ b.same_marks x;
      same_records = λ e. a.same_records e ∙ b.same_records e;
    }
