-- Every command is 02, which adds a span with no duct told; or 0B; or one that adds no span and that rewriting leaves as it is.
use mathlib.Core.Bool.{true, false, not, false≢true}
use mathlib.Core.Logic.{◌⊎◌, inl, inr}
use mathlib.Core.Path.{◌≡◌, refl, sym, ◌∙◌, ap}
use Prim.Native.Nat.{ℕ}
use lib.Dec.{eqb}
use Rattle.commands.specs.Command.{Command, add_cabinet, add_span, district_name, ring_name, shared_mesh, sole_spans, cut_cabinets, is_sole, mark_exchange, holds_exchange, add_duct_span, routes_between, record_length, span_length, exchange_share, command_byte}
use Rattle.commands.specs.Facts.{facts, asks, addition_of, addition}
use Rattle.commands.specs.Forecast.{is_span}
use Rattle.commands.specs.Rewrite.{in_own_duct, rewrite_command}

-- the command is 02
pub record Is02 (c : Command) : Type 0 where
  pub from : ℕ
  pub to : ℕ
  pub is : c ≡ add_span from to

-- the command is 0B
pub record Is0B (c : Command) : Type 0 where
  pub from : ℕ
  pub to : ℕ
  pub duct : ℕ
  pub is : c ≡ add_duct_span from to duct

-- the command adds no span, and rewriting leaves it as it is
pub record Unchanged (c : Command) : Type 0 where
  pub adds_none : is_span (addition c) ≡ false
  pub not_02 : eqb (command_byte c) 0x02 ≡ false
  pub as_it_is : (number : ℕ) → rewrite_command number c ≡ c

-- every command is one of these
pub each_command : (c : Command) → Is02 c ⊎ (Is0B c ⊎ Unchanged c)
unfolding rewrite_command in_own_duct addition addition_of is_span facts asks command_byte
each_command add_cabinet = inr (inr (record { adds_none = refl; not_02 = refl; as_it_is = λ n. refl }))
each_command (add_span x y) = inl (record { from = x; to = y; is = refl })
each_command (district_name x) = inr (inr (record { adds_none = refl; not_02 = refl; as_it_is = λ n. refl }))
each_command (ring_name x) = inr (inr (record { adds_none = refl; not_02 = refl; as_it_is = λ n. refl }))
each_command (shared_mesh x y) = inr (inr (record { adds_none = refl; not_02 = refl; as_it_is = λ n. refl }))
each_command (sole_spans x y) = inr (inr (record { adds_none = refl; not_02 = refl; as_it_is = λ n. refl }))
each_command (cut_cabinets x y) = inr (inr (record { adds_none = refl; not_02 = refl; as_it_is = λ n. refl }))
each_command (is_sole x) = inr (inr (record { adds_none = refl; not_02 = refl; as_it_is = λ n. refl }))
each_command (mark_exchange x) = inr (inr (record { adds_none = refl; not_02 = refl; as_it_is = λ n. refl }))
each_command (holds_exchange x) = inr (inr (record { adds_none = refl; not_02 = refl; as_it_is = λ n. refl }))
each_command (add_duct_span x y d) = inr (inl (record { from = x; to = y; duct = d; is = refl }))
each_command (routes_between x y) = inr (inr (record { adds_none = refl; not_02 = refl; as_it_is = λ n. refl }))
each_command (record_length x day metres) = inr (inr (record { adds_none = refl; not_02 = refl; as_it_is = λ n. refl }))
each_command (span_length x) = inr (inr (record { adds_none = refl; not_02 = refl; as_it_is = λ n. refl }))
each_command exchange_share = inr (inr (record { adds_none = refl; not_02 = refl; as_it_is = λ n. refl }))

-- so one other than 0B is 02 or unchanged
pub each_rewritten : (c : Command) → not (eqb (command_byte c) 0x0B) ≡ true → Is02 c ⊎ Unchanged c
each_rewritten c other = go (each_command c)
  where
    go : Is02 c ⊎ (Is0B c ⊎ Unchanged c) → Is02 c ⊎ Unchanged c
    go (inl w) = inl w
    go (inr (inl w)) = unfold command_byte in absurd (false≢true (ap (λ d. not (eqb (command_byte d) 0x0B)) (sym w.is) ∙ other))
    go (inr (inr w)) = inr w
