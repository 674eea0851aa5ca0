-- Every answer of an accepted command fits its bytes: every number in it is below 65,536, within the capacities, and where the numbers in
-- the commands are.
use mathlib.Core.Bool.{Bool, true, ◌&&◌}
use mathlib.Core.List.{List, [], ◌∷◌, map}
use mathlib.Core.Option.{Option, none, some}
use mathlib.Core.Path.{◌≡◌, refl, sym, ◌∙◌, ap, subst}
use Prim.Native.Nat.{ℕ, suc, ◌≤◌, ◌<◌}
use native.Mathlib.Omega.{arith}
use lib.Dec.{ltb}
use lib.ListN.{length}
use Rattle.graph.specs.Lists.{is_in, all_in}
use Rattle.graph.specs.Network.{Edge, edge_count}
use Rattle.graph.specs.Block.{shared_block}
use Rattle.graph.specs.Between.{is_bridge_between, bridges_between, is_cut_between, cuts_between}
use Rattle.graph.specs.Route.{Choice, Serves}
use Rattle.graph.proofs.Truth.{and_left, ltb_lt}
use Rattle.graph.proofs.Joined.{edge_count_more}
use Rattle.graph.proofs.Members.{is_in_head, is_in_tail}
use Rattle.graph.proofs.SharedBlock.{shared_block_some}
use Rattle.graph.proofs.CutsBetween.{cuts_between_exactly}
use Rattle.graph.proofs.BridgesBetween.{bridges_between_exactly}
use Rattle.graph.proofs.Lengths.{few_bridges_between, few_cuts_between}
use Rattle.naming.specs.Rename.{name_of}
use Rattle.naming.specs.Book.{Book, edge, enter_edge, feed}
use Rattle.naming.specs.Survey.{Survey, holding}
use Rattle.naming.specs.Lookup.{group_of, component_of, bridge_block_of}
use Rattle.naming.specs.State.{State, after_addition, after_recording}
use Rattle.naming.proofs.Equivalent.{size_at_most}
use Rattle.commands.specs.Field.{Kind, district, ring, mesh, Field, cabinet, span}
use Rattle.commands.specs.Command.{Command, add_cabinet, add_span, district_name, ring_name, shared_mesh, sole_spans, cut_cabinets, is_sole, mark_exchange, holds_exchange, add_duct_span, routes_between, record_length, span_length, exchange_share}
use Rattle.commands.specs.Answer.{Notice, notice_fields, notices_fields, notices, plain, plain_fields, answer_fields}
use Rattle.commands.specs.Facts.{Facts, adds_cabinet, adds_span, adds_nothing, asks, mesh_answer, routes_answer, length_answer, facts, operands_of, addition_of, addition, after, span_answer, answer_to, answer}
use Rattle.commands.specs.Refusal.{Capacities, cabinet_known, cabinets_known, refusal_of}
use Rattle.commands.specs.Run.{Accepted}
use Rattle.commands.specs.WholeRun.{EachNotice, groups_of, items_of, group_size}
use Rattle.commands.proofs.Exchange.{share_at_most}
use Rattle.commands.proofs.Bytes.{Small, FieldsFit, InTwoBytes, cabinets_in_two_bytes, spans_in_two_bytes, items_in_two_bytes, both_fit_lem}
use Rattle.commands.proofs.Spelled.{AllSpelled}
use Rattle.commands.proofs.Surveys.{MetresFit, metres_fit_after}
use Rattle.commands.proofs.Decode.{NoticeFits, Fits, AllFit}
use Rattle.commands.proofs.Causes.{not_refused_exactly}
use Rattle.commands.proofs.Start.{InRange}
use Rattle.commands.proofs.SizedBook.{names_in}
use Rattle.commands.proofs.Notices.{each_notice}
use Rattle.commands.proofs.NoticeOrder.{few_notices}
use Rattle.commands.proofs.EachKind.{kind_named, kind_advances, sized_by_laws}
use Rattle.commands.proofs.RunBooks.{Sound, command_advances, sound_after, Answered}
use Rattle.commands.proofs.Routes.{routes_asked, serves_after, given_served}

-- a list fits if each of its members does
each_fits : (f : ℕ → Field) → InTwoBytes f → (l : List ℕ) → ((x : ℕ) → is_in x l ≡ true → Small x) → FieldsFit (map f l)
each_fits f two [] small = tt
each_fits f two (x ∷ l) small = ((two.fits x).1 (small x (is_in_head x l)), each_fits f two l (λ y e. small y (is_in_tail y x l e)))

-- and so do notices
each_notice_fits : (ts : List Notice) → EachNotice NoticeFits ts → FieldsFit (notices_fields ts)
unfolding notices_fields notice_fields
each_notice_fits [] fit = tt
each_notice_fits (t ∷ ts) fit = (fit.0.0, (fit.0.1.0, (fit.0.1.1.0, each_notice_fits ts fit.1)))

module _ (choice : Choice) (caps : Capacities) (range : InRange caps) where
  -- within the capacities there are few items of each kind
  few_items : (s : State) → Sound caps s → (kind : Kind) → items_of kind s.book.network ≤ 8192
  unfolding items_of
  few_items s sound district = omega (arith, sound.fits.cabinets_fit, range.few_cabinets)
  few_items s sound ring = omega (arith, sound.fits.cabinets_fit, range.few_cabinets)
  few_items s sound mesh = omega (arith, sound.fits.spans_fit, range.few_spans)

  -- so a name fits
  small_name : (s : State) → Sound caps s → (kind : Kind) (x : ℕ) → x < items_of kind s.book.network
      → Small (name_of (names_in kind s.book) x)
  small_name s sound kind x h = omega (arith, (kind_named sound.laws kind).name_below x h, few_items s sound kind)

  module _ (s : State) (sound : Sound caps s) where
    -- and so does a size
    small_size : (kind : Kind) (x : ℕ) → Small (group_size kind s.book.network x)
    unfolding group_size
    small_size kind x = omega (arith, size_at_most (items_of kind s.book.network) (groups_of kind s.book.network) x, few_items s sound kind)

    -- the number of a command's notices fits
    number_fits : (b' : Book) → Small (length (notices s.book b'))
    unfolding items_of
    number_fits b' =
        omega (arith, few_notices s.book b' (sized_by_laws sound.laws), few_items s sound district, few_items s sound mesh)

    -- and so do the notices
    notices_fit : (c : Command) → refusal_of caps s c ≡ none → FieldsFit (notices_fields (notices s.book (after s c).book))
    unfolding notice_fields
    notices_fit c e =
        each_notice_fits
        (notices s.book b')
        (each_notice NoticeFits s.book b' (sized_by_laws sound.laws)
        (λ kind x h d. (tt, (((items_in_two_bytes kind).fits x).1 (item kind x h), (name kind x h, tt)))))
      where
        b' : Book
        b' = (after s c).book

        item : (kind : Kind) (x : ℕ) → x < items_of kind s.book.network → Small x
        item kind x h = omega (arith, few_items s sound kind)

        name : (kind : Kind) (x : ℕ) → x < items_of kind s.book.network → Small (name_of (names_in kind b') x)
        name kind x h =
            small_name
            (after s c)
            (sound_after caps s c sound e)
            kind
            x
            (omega (arith, (kind_advances (command_advances caps s c sound e) kind).no_fewer))

    -- the new span's number, its name and the notices
    span_fits : (c : Command) (e : Edge) → addition c ≡ edge e → refusal_of caps s c ≡ none → Fits (span_answer s.book (after s c).book)
    unfolding span_answer answer_fields names_in items_of
    span_fits c e q n = (
      tt,
      (
        omega (arith, few_items s sound mesh),
        (
          small_name (after s c) (sound_after caps s c sound n) mesh (edge_count s.book.network) (omega (arith, there)),
          (number_fits (after s c).book, notices_fit c n),
        ),
      ),
    )
      where
        there : edge_count (after s c).book.network ≡ suc (edge_count s.book.network)
        there = unfold after after_addition after_recording in rw q (unfold feed enter_edge in edge_count_more s.book.network e)

    -- the name of a shared mesh
    mesh_fits : (x y : ℕ) (o : Option ℕ) → shared_block s.book.network x y ≡ o → Fits (plain (mesh_answer s.book o))
    unfolding answer_fields plain_fields mesh_answer names_in items_of
    mesh_fits x y none e = (tt, (tt, (omega arith, tt)))
    mesh_fits x y (some t) e = (tt, (tt, (small_name s sound mesh t (shared_block_some s.book.network x y t e).known, tt)))

    -- the metres of the record that holds
    length_fits : MetresFit s.surveys → (x : ℕ) (o : Option Survey) → holding s.surveys x ≡ o → Fits (plain (length_answer o))
    unfolding answer_fields plain_fields length_answer
    length_fits fit x none e = (tt, (tt, (omega arith, tt)))
    length_fits fit x (some r) e = (tt, (tt, (fit x r e, tt)))

    -- a list of items of a kind fits
    items_fit : (f : ℕ → Field) → InTwoBytes f → (kind : Kind) (l : List ℕ) (p : ℕ → Bool)
        → ((x : ℕ) → is_in x l ≡ (ltb x (items_of kind s.book.network) && p x))
        → FieldsFit (map f l)
    items_fit f two kind l p exactly =
        each_fits f two l (λ x m. small x (and_left (ltb x (items_of kind s.book.network)) (p x) (sym (exactly x) ∙ m)))
      where
        small : (x : ℕ) → ltb x (items_of kind s.book.network) ≡ true → Small x
        small x h = omega (arith, ltb_lt x (items_of kind s.book.network) h, few_items s sound kind)

    -- so does one of known spans
    spans_fit : (l : List ℕ) → ((x : ℕ) → is_in x l ≡ true → x < edge_count s.book.network) → FieldsFit (map span l)
    unfolding items_of
    spans_fit l known = each_fits span spans_in_two_bytes l (λ x m. omega (arith, known x m, few_items s sound mesh))

    -- the answer to a command that adds nothing fits
    abbrev PlainFits : Facts → Type 0
    PlainFits adds_cabinet = Unit
    PlainFits (adds_span e operands demands) = Unit
    PlainFits (adds_nothing q) = Fits (plain (q.told choice s))

    plain_fits : Serves s.book.network.rule choice → MetresFit s.surveys → (c : Command) → refusal_of caps s c ≡ none → cabinets_known s c ≡ true
        → PlainFits (facts c)
    unfolding facts asks component_of bridge_block_of group_of routes_answer answer_fields plain_fields cabinets_known operands_of all_in cabinet_known names_in groups_of items_of group_size
    plain_fits serves fit add_cabinet n known = tt
    plain_fits serves fit (add_span x y) n known = tt
    plain_fits serves fit (district_name x) n known = (tt, (small_name s sound district x (ltb_lt _ _ (and_left _ true known)), (small_size district x, tt)))
    plain_fits serves fit (ring_name x) n known = (tt, (small_name s sound ring x (ltb_lt _ _ (and_left _ true known)), (small_size ring x, tt)))
    plain_fits serves fit (shared_mesh x y) n known = mesh_fits x y (shared_block s.book.network x y) refl
    plain_fits serves fit (sole_spans x y) n known = (
      tt,
      (
        omega (arith, few_bridges_between s.book.network x y, few_items s sound mesh),
        items_fit span spans_in_two_bytes mesh (bridges_between s.book.network x y) (is_bridge_between s.book.network x y)
            (bridges_between_exactly s.book.network x y),
      ),
    )
    plain_fits serves fit (cut_cabinets x y) n known = (
      tt,
      (
        omega (arith, few_cuts_between s.book.network x y, few_items s sound district),
        items_fit cabinet cabinets_in_two_bytes district (cuts_between s.book.network x y) (is_cut_between s.book.network x y)
            (cuts_between_exactly s.book.network x y),
      ),
    )
    plain_fits serves fit (is_sole x) n known = (tt, (tt, tt))
    plain_fits serves fit (mark_exchange x) n known = (tt, tt)
    plain_fits serves fit (holds_exchange x) n known = (tt, (tt, tt))
    plain_fits serves fit (add_duct_span x y d) n known = tt
    plain_fits serves fit (routes_between x y) n known =
        let g = s.book.network in
        let given = choice g x y in
        let they = given_served choice g sound.laws.proper serves x y (routes_asked caps s x y n) in (
          tt,
          (
            omega (arith, they.short, few_items s sound mesh),
            (both_fit_lem (map span given.first) _).1 (
              spans_fit given.first they.first_known,
              (
                omega (arith, they.short, few_items s sound mesh),
                spans_fit given.second they.second_known,
              ),
            ),
          ),
        )
    plain_fits serves fit (record_length x day metres) n known = (tt, tt)
    plain_fits serves fit (span_length x) n known = length_fits fit x (holding s.surveys x) refl
    plain_fits serves fit exchange_share n known = (tt, (omega (arith, share_at_most s), tt))

    -- every number in the answer fits
    pub answer_fits : Serves s.book.network.rule choice → MetresFit s.surveys → (c : Command) → refusal_of caps s c ≡ none → Fits (answer choice s c)
    unfolding answer answer_to addition_of
    answer_fits serves fit c n = go (facts c) refl
      where
        go : (f : Facts) → facts c ≡ f → Fits (answer_to choice s f)
        go adds_cabinet q = unfold answer_fields items_of in (tt, (omega (arith, few_items s sound district), tt))
        go (adds_span e operands demands) q =
            subst
            (λ f. Fits (span_answer s.book (feed s.book (addition_of f))))
            q
            (unfold after after_addition after_recording addition in span_fits c e (ap addition_of q) n)
        go (adds_nothing question) q = subst PlainFits q (plain_fits serves fit c n ((not_refused_exactly caps s c).0 n).cabinets_known_lem)

  -- so it is with every answer of a run
  pub all_answers_fit : (s : State) (l : List Accepted) → Sound caps s → Serves s.book.network.rule choice → MetresFit s.surveys
      → AllSpelled (map (λ a. a.command) l)
      → Answered choice caps s l
      → AllFit l
  all_answers_fit s [] sound serves fit read w = tt
  all_answers_fit s (a ∷ later) sound serves fit read w = (
    rw w.1 (answer_fits s sound serves fit a.command w.0),
    all_answers_fit
        (after s a.command)
        later
        (sound_after caps s a.command sound w.0)
        (serves_after choice s a.command serves)
        (metres_fit_after s a.command fit read.0)
        read.1
        w.2,
  )
