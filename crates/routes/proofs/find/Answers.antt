-- `find` finds two routes: two ways, or, where the second goes back along the first, two routes along what both use.
use mathlib.Core.Path.{subst, ◌∙◌}
use Rattle.routes.specs.Inside.Frame.{order_column}
use Rattle.routes.specs.Inside.Walks.{TakesBack}
use Rattle.routes.proofs.Passes.{two_ways_found, routes_found}
use Rattle.routes.proofs.find.Goals as goal

pub returns-then-not-takes_back-clause-found : goal.returns-then-not-takes_back-clause-found
returns-then-not-takes_back-clause-found c =
    let none = c.if-not-takes_back.true in
    let built = c.build_lists.ensures.same.shape in
    let taken = c.find_and_take-one.ensures.same.shape ∙ built in
    two_ways_found
    c.args.n.now.table.shape
    c.args.a.0
    c.args.b.0
    c.args.n.now.table.words.now
    c.args.n.now.holds
    c.requires.0
    c.requires.1
    c.build_lists.ensures.built
    (rw built at c.find_and_take-one.ensures.taken)
    (rw taken at c.find_way-two.ensures.written)
    (subst (TakesBack c.args.n.now.table.shape order_column _ _) none (rw (c.find_way-two.ensures.same.shape ∙ taken) at c.takes_back.ensures))

pub returns-clause-found : goal.returns-clause-found
returns-clause-found c =
    let some = c.if-not-takes_back.false in
    let built = c.build_lists.ensures.same.shape in
    let taken = c.find_and_take-one.ensures.same.shape ∙ built in
    let written = c.find_way-two.ensures.same.shape ∙ taken in
    let both = c.take_way.ensures.same.shape ∙ written in
    routes_found
    c.args.n.now.table.shape
    c.args.a.0
    c.args.b.0
    c.args.n.now.table.words.now
    c.args.n.now.holds
    c.requires.0
    c.requires.1
    c.build_lists.ensures.built
    (rw built at c.find_and_take-one.ensures.taken)
    (rw taken at c.find_way-two.ensures.written)
    (subst (TakesBack c.args.n.now.table.shape order_column _ _) some (rw written at c.takes_back.ensures))
    (rw written at c.take_way.ensures.taken)
    (rw both at c.find_and_take-first.ensures.taken)
    (rw (c.find_and_take-first.ensures.same.shape ∙ both) at c.find_way-second.ensures.written)
