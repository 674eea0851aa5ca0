-- Which record of an edge holds: what marks it out among the edge's records, and that it is the one that is kept as they come in.
use mathlib.Core.Bool.{Bool, true, false, cond}
use mathlib.Core.List.{List, [], ◌∷◌, ◌++◌, append_assoc, append-nil}
use mathlib.Core.Logic.{◌⊎◌, inl, inr}
use mathlib.Core.Option.{Option, none, some}
use mathlib.Core.Path.{◌≡◌, refl, sym, ◌∙◌, ap, subst}
use Prim.Native.Nat.{ℕ}
use native.Mathlib.Omega.{arith}
use lib.Dec.{eqb, leb, ltb}
use Rattle.graph.specs.Lists.{all_in}
use Rattle.graph.proofs.Members.{all_in-append, all_in_behind}
use Rattle.graph.proofs.Truth.{true_or_false, false_of_not, and_left, and_right, and_both, ltb_lt, lt-ltb, ltb_ge, leb_le, le-leb}
use Rattle.naming.specs.Survey.{Survey, surveys_of, is_latest, first_latest, holding, Latest, replaced, kept_behind, kept_of}

-- It is the given one, or there is no record.
abbrev pub LatestIf : List Survey → Option Survey → Type 0
LatestIf records none = records ≡ []
LatestIf records (some r) = Latest records r

-- a weaker test passes too
all_weaker : (f g : Survey → Bool) (l : List Survey) → ((q : Survey) → f q ≡ true → g q ≡ true) → all_in f l ≡ true → all_in g l ≡ true
unfolding all_in
all_weaker f g [] w p = refl
all_weaker f g (x ∷ l) w p = and_both (w x (and_left (f x) (all_in f l) p)) (all_weaker f g l w (and_right (f x) (all_in f l) p))

-- the first of the latest day is found behind records of earlier days
found_behind : (records before behind : List Survey) (r : Survey) → is_latest records r ≡ true
    → ((q : Survey) → is_latest records q ≡ true → leb r.day q.day ≡ true)
    → all_in (λ q. ltb q.day r.day) before ≡ true
    → first_latest records (before ++ r ∷ behind) ≡ some r
unfolding first_latest all_in
found_behind records [] behind r latest least earlier = rw latest
found_behind records (q ∷ before) behind r latest least earlier =
    rw not_latest
    (found_behind records before behind r latest least
    (and_right (ltb q.day r.day) (all_in (λ q. ltb q.day r.day) before) earlier))
  where
    not_latest : is_latest records q ≡ false
    not_latest =
        false_of_not (is_latest records q)
        (λ e.
        omega (
          arith,
          leb_le r.day q.day (least q e),
          ltb_lt q.day r.day (and_left (ltb q.day r.day) (all_in (λ q. ltb q.day r.day) before) earlier),
        ))

-- no record of the list has a later day
none_later : (records : List Survey) (r : Survey) → Latest records r → is_latest records r ≡ true
unfolding is_latest all_in
none_later records r l =
    rw l.split
    (all_in-append (λ q. leb q.day r.day) l.before (r ∷ l.behind)
    (all_weaker (λ q. ltb q.day r.day) (λ q. leb q.day r.day) l.before
    (λ q e. le-leb q.day r.day (omega (arith, ltb_lt q.day r.day e)))
    l.earlier)
    (and_both (le-leb r.day r.day (omega arith)) l.no_later))

-- and whatever record has that too is no earlier
as_late : (records : List Survey) (r : Survey) → Latest records r → (q : Survey) → is_latest records q ≡ true → leb r.day q.day ≡ true
unfolding is_latest all_in
as_late records r l q e =
    and_left (leb r.day q.day) (all_in (λ p. leb p.day q.day) l.behind)
    (all_in_behind (λ p. leb p.day q.day) l.before (r ∷ l.behind) (rw l.split at e))

-- the latest record is the one that is found
latest_found : (records : List Survey) (o : Option Survey) → LatestIf records o → first_latest records records ≡ o
unfolding first_latest
latest_found records none e = rw e
latest_found records (some r) l =
    ap (first_latest records) l.split
    ∙ found_behind records l.before l.behind r (none_later records r l) (as_late records r l) l.earlier

-- a record more replaces the latest if its day is later
latest_replaced : (records : List Survey) (o : Option Survey) (q : Survey) → LatestIf records o
    → LatestIf (records ++ q ∷ []) (replaced o q)
unfolding replaced all_in is_latest
latest_replaced records none q e = record { before = []; behind = []; split = rw e; earlier = refl; no_later = refl }
latest_replaced records (some r) q l = go (true_or_false (ltb r.day q.day))
  where
    go : (ltb r.day q.day ≡ true) ⊎ (ltb r.day q.day ≡ false) → Latest (records ++ q ∷ []) (cond (ltb r.day q.day) q r)
    go (inl e) =
        rw e
        record {
          before = records;
          behind = [];
          split = refl;
          earlier =
              all_weaker (λ p. leb p.day r.day) (λ p. ltb p.day q.day) records
              (λ p k. lt-ltb p.day q.day (omega (arith, leb_le p.day r.day k, ltb_lt r.day q.day e)))
              (none_later records r l);
          no_later = refl;
        }
    go (inr e) =
        rw e
        record {
          before = l.before;
          behind = l.behind ++ q ∷ [];
          split = rw l.split (append_assoc l.before (r ∷ l.behind) (q ∷ []));
          earlier = l.earlier;
          no_later =
              all_in-append (λ p. leb p.day r.day) l.behind (q ∷ []) l.no_later
              (and_both (le-leb q.day r.day (ltb_ge r.day q.day e)) refl);
        }

-- what is kept of an edge's records as they come in is the latest of them
kept_latest : (e : ℕ) (o : Option Survey) (earlier later : List Survey) → LatestIf earlier o
    → LatestIf (earlier ++ surveys_of e later) (kept_behind e o later)
unfolding kept_behind surveys_of
kept_latest e o earlier [] l = rw (append-nil earlier) l
kept_latest e o earlier (r ∷ later) l =
    go
    (kept_latest e (replaced o r) (earlier ++ r ∷ []) later (latest_replaced earlier o r l))
    (kept_latest e o earlier later l)
    (true_or_false (eqb r.measured e))
  where
    go : LatestIf (earlier ++ r ∷ [] ++ surveys_of e later) (kept_behind e (replaced o r) later)
        → LatestIf (earlier ++ surveys_of e later) (kept_behind e o later)
        → (eqb r.measured e ≡ true) ⊎ (eqb r.measured e ≡ false)
        → LatestIf (earlier ++ cond (eqb r.measured e) (r ∷ surveys_of e later) (surveys_of e later))
        (kept_behind e (cond (eqb r.measured e) (replaced o r) o) later)
    go with_it without (inl q) = rw (q, sym (append_assoc earlier (r ∷ []) (surveys_of e later))) with_it
    go with_it without (inr q) = rw q without

-- the records of an edge in two lists, one behind the other
pub surveys_together : (e : ℕ) (l k : List Survey) → surveys_of e (l ++ k) ≡ surveys_of e l ++ surveys_of e k
unfolding surveys_of
surveys_together e [] k = refl
surveys_together e (r ∷ l) k = go (surveys_together e l k) (eqb r.measured e)
  where
    go : surveys_of e (l ++ k) ≡ surveys_of e l ++ surveys_of e k → (b : Bool)
        → cond b (r ∷ surveys_of e (l ++ k)) (surveys_of e (l ++ k)) ≡ cond b (r ∷ surveys_of e l) (surveys_of e l) ++ surveys_of e k
    go ih true = ap (λ rs. r ∷ rs) ih
    go ih false = ih

-- what is kept of an edge's records as they come in is the one that holds
pub kept_is_holding : (e : ℕ) (records : List Survey) → kept_of e records ≡ holding records e
unfolding kept_of holding
kept_is_holding e records = sym (latest_found (surveys_of e records) (kept_of e records) (kept_latest e none [] records refl))

-- the record that holds is the latest of the edge's
pub holding_latest : (records : List Survey) (e : ℕ) → LatestIf (surveys_of e records) (holding records e)
unfolding kept_of
holding_latest records e = rw (sym (kept_is_holding e records)) (kept_latest e none [] records refl)

-- and what is the latest of them holds
pub latest_holds : (records : List Survey) (e : ℕ) (o : Option Survey) → LatestIf (surveys_of e records) o → holding records e ≡ o
unfolding holding
latest_holds records e o l = latest_found (surveys_of e records) o l

-- If a record holds for an edge, all the edge's records before it are of earlier days, and none behind it is of a later day.
pub holding_exactly : (records : List Survey) (e : ℕ) (r : Survey) → holding records e ≡ some r → Latest (surveys_of e records) r
holding_exactly records e r h = subst (LatestIf (surveys_of e records)) h (holding_latest records e)

-- and such a record holds
pub exactly_holding : (records : List Survey) (e : ℕ) (r : Survey) → Latest (surveys_of e records) r → holding records e ≡ some r
exactly_holding records e r l = latest_holds records e (some r) l

-- if none holds, the edge has no record
pub holding_none : (records : List Survey) (e : ℕ) → holding records e ≡ none → surveys_of e records ≡ []
holding_none records e h = subst (LatestIf (surveys_of e records)) h (holding_latest records e)

-- and if it has none, none holds
pub none_holding : (records : List Survey) (e : ℕ) → surveys_of e records ≡ [] → holding records e ≡ none
none_holding records e h = latest_holds records e none h

-- a record more replaces the one that held, if it is of that edge and its day is later
pub holding_behind : (records : List Survey) (r : Survey) (e : ℕ)
    → holding (records ++ r ∷ []) e ≡ cond (eqb r.measured e) (replaced (holding records e) r) (holding records e)
unfolding surveys_of
holding_behind records r e =
    latest_holds (records ++ r ∷ []) e _
    (rw (surveys_together e records (r ∷ [])) (go (true_or_false (eqb r.measured e))))
  where
    go : (eqb r.measured e ≡ true) ⊎ (eqb r.measured e ≡ false)
        → LatestIf (surveys_of e records ++ cond (eqb r.measured e) (r ∷ []) [])
        (cond (eqb r.measured e) (replaced (holding records e) r) (holding records e))
    go (inl q) = rw q (latest_replaced (surveys_of e records) (holding records e) r (holding_latest records e))
    go (inr q) = rw (q, append-nil (surveys_of e records)) (holding_latest records e)
