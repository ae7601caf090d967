use Rattle.hpx_node.proofs.Common.{Locality, Some, Tables, ap, find, is_standing, remove, subst, sym, ◌∙◌, ◌≡◌}
use Rattle.std.specs.List.Sorted.{IsPermutation}
use Rattle.hpx_node.proofs.Credits.{freed_deals, freed_grows, returns_kept}
use Rattle.hpx_node.proofs.Paused.{freed_whole}
use Rattle.hpx_node.proofs.Records.{leaves_freed}
use Rattle.hpx_node.proofs.node.Node.free.Goals as goal

pub let_go_all-requires-clause-right : goal.let_go_all-requires-clause-right
let_go_all-requires-clause-right g c =
    let tidy = rw (← c.self.view_is) at c.requires.tidy in
    let idle = rw (← c.self.view_is) at c.requires.idle in
    let there = c.take-kept.ensures.kept in
    rw (c.state.ensures.state) (freed_whole _ c.args.o c.take-kept.result c.in-Some.i there (c.in-Some.ensures.found ∙ there) idle tidy)

pub returns : goal.returns
returns g c =
    let there = c.take-kept.ensures.kept in
    let found : find (is_standing c.args.o) c.self.inside.objects.items ≡ Some c.take-kept.result = c.in-Some.ensures.found ∙ there in
    let seen : find (is_standing c.args.o) c.args.self.now.tables.objects ≡ Some c.take-kept.result =
    ap (λ (t : Locality). find (is_standing c.args.o) t.tables.objects) (sym c.self.view_is) ∙ found in
    let here = ap (λ (t : Locality). t.tables.here) (sym c.self.view_is) in
    record {
      deals = rw (← c.self.view_is)
          (freed_deals c.state.result.now.ids _ _ c.take-kept.new.self.items _ c.take-kept.result found (ap (λ s. s.ids) c.state.ensures.state) c.let_go_all.ensures.goes);
      leaves = rw (← c.self.view_is) (leaves_freed c.self.inside.objects.items _ c.args.o c.take-kept.result c.in-Some.i c.in-Some.ensures.first there found
          (subst (IsPermutation (remove c.self.inside.objects.items c.in-Some.i)) (sym (ap (λ (t : Tables). t.objects) c.let_go_all.ensures.goes ∙ returns_kept c.state.result.now.ids _)) c.take-kept.ensures.items));
      grows = rw here (freed_grows c.self.inside.here c.args.o c.take-kept.result c.state.result.now.ids _ c.args.book.now.entries c.push.new.self.entries _
          seen (ap (λ s. s.ids) c.state.ensures.state) c.push.ensures.entries c.let_go_all.ensures.grows);
    }
