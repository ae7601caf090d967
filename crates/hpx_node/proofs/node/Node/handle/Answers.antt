use Rattle.hpx_node.proofs.Common.{None, Parcel, Some, bare, broken_near, find, is_standing, subst, target_of, ◌≡◌}
use Rattle.hpx_steps.proofs.Right.{landed_right, object_right, return_right}
use Rattle.hpx_node.proofs.Lands.{none_found}
use Rattle.hpx_node.proofs.node.Node.handle.Goals as goal

pub take_back-requires-clause-live : goal.take_back-requires-clause-live
take_back-requires-clause-live g c =
    let t = c.args.self.now.tables in
    (return_right t (bare c.in-Return.id) c.in-Return.id None (subst (λ (p : Parcel). broken_near t p ≡ None) c.in-Return.is c.requires.right)).0

pub take_back-requires-clause-enough : goal.take_back-requires-clause-enough
take_back-requires-clause-enough g c =
    let t = c.args.self.now.tables in
    (return_right t (bare c.in-Return.id) c.in-Return.id None (subst (λ (p : Parcel). broken_near t p ≡ None) c.in-Return.is c.requires.right)).1

pub answer-requires-clause-live : goal.answer-requires-clause-live
answer-requires-clause-live g c =
    let t = c.args.self.now.tables in
    (return_right t (bare c.in-Ask.id) c.in-Ask.id None (subst (λ (p : Parcel). broken_near t p ≡ None) c.in-Ask.is c.requires.right)).0

pub answer-requires-clause-enough : goal.answer-requires-clause-enough
answer-requires-clause-enough g c =
    let t = c.args.self.now.tables in
    (return_right t (bare c.in-Ask.id) c.in-Ask.id None (subst (λ (p : Parcel). broken_near t p ≡ None) c.in-Ask.is c.requires.right)).1

pub land-requires-clause-absent : goal.land-requires-clause-absent
land-requires-clause-absent g c =
    let t = c.args.self.now.tables in
    let o = target_of c.in-Object.action in
    none_found (find (is_standing o) t.objects) (object_right t (bare o) o (subst (λ (p : Parcel). broken_near t p ≡ None) c.in-Object.is c.requires.right))

pub arrive-requires-clause-live : goal.arrive-requires-clause-live
arrive-requires-clause-live g c =
    let t = c.args.self.now.tables in
    (landed_right t (bare c.in-Landed.id) c.in-Landed.id c.in-Landed.place (subst (λ (p : Parcel). broken_near t p ≡ None) c.in-Landed.is c.requires.right)).0

pub arrive-requires-clause-enough : goal.arrive-requires-clause-enough
arrive-requires-clause-enough g c =
    let t = c.args.self.now.tables in
    (landed_right t (bare c.in-Landed.id) c.in-Landed.id c.in-Landed.place (subst (λ (p : Parcel). broken_near t p ≡ None) c.in-Landed.is c.requires.right)).1

pub arrive-requires-clause-moves : goal.arrive-requires-clause-moves
arrive-requires-clause-moves g c =
    let t = c.args.self.now.tables in
    (landed_right t (bare c.in-Landed.id) c.in-Landed.id c.in-Landed.place (subst (λ (p : Parcel). broken_near t p ≡ None) c.in-Landed.is c.requires.right)).2
