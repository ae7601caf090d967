-- The first of what is due is printed.
use Rattle.hpx_steps.proofs.Common.{Due, Entry, IsDue, IsSound, List, Print, PrintDue, Prints, Rules, Some, TidyAt, Turn, View, [], ap, arith, bare_due, follows_print, map, refl, subst, sym, view, worth, wrote, ℕ, ◌∷◌, ◌≡◌, brought, moved_by}
use Rattle.hpx_steps.proofs.Tools.{Changes, Keeps, Sees, by_rows, counts_near, due_change, first_goes, holding, numbered_so, orders_so, pays_so, sees_by, sees_leads, view_worth, tracks_so, says_so, flows_so}

module _ (r : Rules) (s : Turn) (entries : List Entry) (h : IsSound r s entries) (bytes : List ℕ) (rest : List Due) (fresh : s.fresh ≡ []) (due : s.due ≡ PrintDue bytes ∷ rest) where
  abbrev now : Turn
  now = wrote (Print bytes) (record s { due = rest })

  pub change : Changes (IsDue (PrintDue bytes) ∷ []) [] s now
  change = due_change (IsDue (PrintDue bytes) ∷ []) [] s rest (first_goes (λ x. IsDue x) s.due (PrintDue bytes) rest due)

  abbrev seen : View
  seen = record (view s) { due = map bare_due rest; last = Some (Print bytes) }

  sees : Sees seen now
  sees = sees_by seen now refl (λ f. refl) (λ f. refl) (λ f weight. omega (arith, view_worth f s, view_worth f now, change.0 (worth f))) (λ x. refl) (λ x. refl) (λ x. omega arith) refl

  pub print_keeps : Keeps r s now (Print bytes)
  print_keeps = record {
    leads = (seen, follows_print r (view s) bytes (map bare_due rest) fresh (ap (map bare_due) due), sees_leads r seen now sees);
    tidy = holding (TidyAt s) [] s now change.1 h.tidy tt;
    places = h.places;
    commits = h.commits;
    numbered = numbered_so r s now (Print bytes) (IsDue (PrintDue bytes) ∷ []) [] change.0 (omega arith) (λ n. omega arith);
    pays = pays_so r s now (Print bytes) (IsDue (PrintDue bytes) ∷ []) [] change.0 (by_rows _ (λ at. refl) (λ at. refl) (λ at. refl) (λ at. refl) (λ at. refl) (λ at. refl) (λ at. refl) (λ at. refl) (λ at. refl) (λ at. refl) (λ at. refl) (λ o at. refl) (λ o to at. refl) (λ o to at. refl) (λ o to at. refl) (λ o at. refl)) (omega arith) (omega arith) (λ o. omega arith);
    orders = orders_so r s now (Print bytes) (IsDue (PrintDue bytes) ∷ []) [] change.0 tt (λ o n. omega arith) (λ j d o n. omega arith);
    says = says_so r s now (Print bytes) (IsDue (PrintDue bytes) ∷ []) [] change.0 refl (λ o j. omega arith) (λ o. omega arith);
    arrived = λ a. omega (arith, h.arrived a, change.0 (brought a), change.0 (moved_by a));
    flows = flows_so r s now (Print bytes) (IsDue (PrintDue bytes) ∷ []) [] change.0 refl (λ o. refl) (λ f. omega arith);
    tracks = tracks_so r s now (Print bytes) (IsDue (PrintDue bytes) ∷ []) [] change.0 (λ o. refl) refl refl (λ o. omega arith) (λ o. omega arith);
    counts = counts_near s now (Print bytes) refl (omega arith) (omega arith) (omega arith) (omega arith) (omega arith) (λ l. refl) (omega arith);
  }

pub print_step : (r : Rules) (s s' : Turn) (entries : List Entry) (bytes : List ℕ) → IsSound r s entries → Prints s bytes s' → Keeps r s s' (Print bytes)
print_step r s s' entries bytes h g = subst (λ x. Keeps r s x (Print bytes)) (sym g.now) (print_keeps r s entries h bytes g.rest g.fresh g.due)
