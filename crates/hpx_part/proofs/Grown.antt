-- A step of the view is a step of the locality.
use Rattle.std.proofs.Common.{ℕ, List, [], ◌∷◌, ◌++◌, ◌≡◌, refl, sym, ap, ◌∙◌, subst, append-nil, append_assoc}
use Rattle.std.specs.List.{AllByRecursion}
use Rattle.hpx_journal.specs.Entries.{Rules}
use Rattle.hpx_journal.specs.Local.{after}
use Rattle.hpx_journal.specs.Rows.{Allowed}
use Rattle.hpx_journal.specs.Foreign.{NodeKeeps, IsForeign}
use Rattle.hpx_journal.specs.Whole.{part, run_local, IsClean}
use Rattle.hpx_journal.specs.Laws.{IsLegalLocal, entry_at}
use Rattle.hpx_journal.proofs.Alls.{all-append}
use Rattle.hpx_journal.proofs.Grow.{keeps_append, part_append, part_at}
use Rattle.hpx_journal.proofs.Single.{keeps_legal, here_stays, act_single, act_drawn, object_single, object_drawn, local_stands}
use Rattle.hpx_part.specs.Data.{Event, Entry, Local}
use Rattle.hpx_part.specs.View.{View}
use Rattle.hpx_part.specs.Shows.{Shows, IsOnce, HasForm, Follows, Leads}
use Rattle.hpx_part.specs.Parts.{StandsFor, at_boot, at_all}
use Rattle.hpx_part.proofs.Covered.{backed}

-- ---- parts

pub run_local_append : (r : Rules) (s : Local) (xs ys : List Entry) → run_local r s (xs ++ ys) ≡ run_local r (run_local r s xs) ys
run_local_append r s [] ys = refl
run_local_append r s (x ∷ xs) ys = run_local_append r (after r s x.event) xs ys

pub clean_front : (r : Rules) (s : Local) (xs ys : List Entry) → IsClean r s (xs ++ ys) → IsClean r s xs × IsClean r (run_local r s xs) ys
clean_front r s [] ys h = (tt, h)
clean_front r s (x ∷ xs) ys h = let i = clean_front r (after r s x.event) xs ys h.1 in ((h.0, i.0), i.1)

-- in a legal part without a foreign arrival all is there once
once_then : (r : Rules) (k : ℕ) (es : List Entry) → IsLegalLocal r (at_boot r k) es → IsClean r (at_boot r k) es → IsOnce (run_local r (at_boot r k) es)
once_then r k es legal clean = record {
  acts = act_single r k es legal clean;
  drawn = λ a home late. act_drawn r k es legal clean a (home ∙ here_stays r (at_boot r k) es) late;
  objects = object_single r k es legal clean;
  born = λ o managed home late. object_drawn r k es legal clean o managed (home ∙ here_stays r (at_boot r k) es) late;
  stands = local_stands r k es legal clean;
}

-- ---- one entry

module _ (r : Rules) (v m : View) (entries : List Entry) (e : Event) (h : StandsFor r v entries) (follows : Follows r v e m) where
  old : List Entry
  old = part v.here entries

  there : Local
  there = run_local r (at_boot r v.here) old

  grown : part v.here (entries ++ entry_at v.here e ∷ []) ≡ old ++ entry_at v.here e ∷ []
  unfolding old
  grown = part_append v.here entries (entry_at v.here e ∷ []) ∙ ap (λ zs. part v.here entries ++ zs) (part_at v.here (entry_at v.here e ∷ []) (refl, tt))

  step_at : IsClean r (at_boot r v.here) old → (IsForeign r there e → ⊥) → Allowed r there (entry_at there.here e) × Shows m (after r there e)
  unfolding old there
  step_at clean native =
      follows.step there (once_then r v.here old (keeps_legal r (at_boot r v.here) old h.keeps clean) clean) (h.shows clean) native

  keeps_more : NodeKeeps r (at_boot r v.here) (old ++ entry_at v.here e ∷ [])
  unfolding old there step_at
  keeps_more = keeps_append r (at_boot r v.here) old (entry_at v.here e ∷ []) h.keeps
      (λ clean native. let f = step_at clean native in (
        subst (λ k. Allowed r there (entry_at k e)) (here_stays r (at_boot r v.here) old) f.0,
        backed m (after r there e) f.1 (follows.covered h.covered),
        tt,
      ))

  shows_more : IsClean r (at_boot r v.here) (old ++ entry_at v.here e ∷ []) → Shows m (run_local r (at_boot r v.here) (old ++ entry_at v.here e ∷ []))
  unfolding old there step_at
  shows_more clean =
      let c = clean_front r (at_boot r v.here) old (entry_at v.here e ∷ []) clean in
      subst (Shows m) (sym (run_local_append r (at_boot r v.here) old (entry_at v.here e ∷ []))) (step_at c.0 c.1.0).1

  pub stands_more : StandsFor r m (entries ++ entry_at v.here e ∷ [])
  unfolding old there
  stands_more =
      let all : List Entry = entries ++ entry_at v.here e ∷ [] in
      record {
        covered = follows.covered h.covered;
        keeps = subst (λ k. NodeKeeps r (at_boot r k) (part k all)) (sym follows.here) (subst (NodeKeeps r (at_boot r v.here)) (sym grown) keeps_more);
        shows = subst (λ k. IsClean r (at_boot r k) (part k all) → Shows m (run_local r (at_boot r k) (part k all))) (sym follows.here)
            (subst (λ zs. IsClean r (at_boot r v.here) zs → Shows m (run_local r (at_boot r v.here) zs)) (sym grown) shows_more);
        forms = subst (λ k. AllByRecursion (λ (x : Entry). HasForm r x.event) (part k all)) (sym follows.here)
            (subst (AllByRecursion (λ (x : Entry). HasForm r x.event)) (sym grown)
            (all-append (λ (x : Entry). HasForm r x.event) old (entry_at v.here e ∷ []) h.forms (follows.form, tt)));
      }

-- ---- many entries

-- what a view after no entry shows
stands_still : (r : Rules) (v w : View) (entries : List Entry) → StandsFor r v entries → Leads r v [] w → StandsFor r w entries
stands_still r v w entries h leads = record {
  covered = leads.1 h.covered;
  keeps = subst (λ k. NodeKeeps r (at_boot r k) (part k entries)) (sym leads.0) h.keeps;
  shows = subst (λ k. IsClean r (at_boot r k) (part k entries) → Shows w (run_local r (at_boot r k) (part k entries))) (sym leads.0)
      (λ clean. leads.2 (run_local r (at_boot r v.here) (part v.here entries)) (h.shows clean));
  forms = subst (λ k. AllByRecursion (λ (x : Entry). HasForm r x.event) (part k entries)) (sym leads.0) h.forms;
}

pub grow : (r : Rules) (v w : View) (entries : List Entry) (events : List Event) → StandsFor r v entries → Leads r v events w
    → StandsFor r w (entries ++ at_all v.here events)
grow r v w entries [] h leads = subst (StandsFor r w) (sym (append-nil entries)) (stands_still r v w entries h leads)
grow r v w entries (e ∷ es) h leads =
    let m = leads.0 in
    let rest : StandsFor r w ((entries ++ entry_at v.here e ∷ []) ++ at_all m.here es) =
    grow r m w (entries ++ entry_at v.here e ∷ []) es (stands_more r v m entries e h leads.1) leads.2 in
    subst (StandsFor r w) (append_assoc entries (entry_at v.here e ∷ []) (at_all v.here es))
    (subst (λ k. StandsFor r w ((entries ++ entry_at v.here e ∷ []) ++ at_all k es)) leads.1.here rest)

-- ---- one way after another

follows_still : (r : Rules) (v m w : View) (e : Event) → Leads r v [] m → Follows r m e w → Follows r v e w
follows_still r v m w e leads f = record {
  step = λ s once shown native. f.step s once (leads.2 s shown) native;
  form = f.form;
  here = f.here ∙ leads.0;
  covered = λ c. f.covered (leads.1 c);
}

leads_still : (r : Rules) (v m w : View) (ys : List Event) → Leads r v [] m → Leads r m ys w → Leads r v ys w
leads_still r v m w [] g h = (h.0 ∙ g.0, λ c. h.1 (g.1 c), λ s shown. h.2 s (g.2 s shown))
leads_still r v m w (y ∷ ys) g h = (h.0, follows_still r v m h.0 y g h.1, h.2)

pub chain : (r : Rules) (v m w : View) (xs ys : List Event) → Leads r v xs m → Leads r m ys w → Leads r v (xs ++ ys) w
chain r v m w [] ys g h = leads_still r v m w ys g h
chain r v m w (x ∷ xs) ys g h = (g.0, g.1, chain r g.0 m w xs ys g.2 h)
