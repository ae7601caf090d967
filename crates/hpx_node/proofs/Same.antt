-- What a node stands for and what it wrote, where its tables are the same.
use Rattle.hpx_node.proofs.Common.{Ends, Entry, Event, IsPrepared, Job, List, Outcome, Prepared, Tables, Writes, ap, append_assoc, at_all, entry_at, map-append, subst, sym, ◌++◌, ◌∙◌, ◌≡◌}

-- what is said of tables and entries is said of the same
pub same_too : (P : Tables → List Entry → Type 0) (t t' : Tables) (es es' : List Entry) → P t es → t' ≡ t → es' ≡ es → P t' es'
same_too P t t' es es' h same e = subst (P t') (sym e) (subst (λ x. P x es) (sym same) h)

pub writes_from : (first : List Event) (s t u : Tables) (a b c : List Entry) → t ≡ s → b ≡ a → Writes first t u b c
    → Writes first s u a c
writes_from first s t u a b c same e h = record {
  here = h.here ∙ ap (λ (x : Tables). x.here) same;
  localities = h.localities ∙ ap (λ (x : Tables). x.localities) same;
  profile = h.profile ∙ ap (λ (x : Tables). x.profile) same;
  grows = subst (λ k. c ≡ a ++ at_all k first) (ap (λ (x : Tables). x.here) same) (subst (λ xs. c ≡ xs ++ at_all t.here first) e h.grows);
}

pub writes_then : (first then : List Event) (s t u : Tables) (a b c : List Entry) → Writes first s t a b → Writes then t u b c
    → Writes (first ++ then) s u a c
writes_then first then s t u a b c g h = record {
  here = h.here ∙ g.here;
  localities = h.localities ∙ g.localities;
  profile = h.profile ∙ g.profile;
  grows = subst (λ k. c ≡ b ++ at_all k then) g.here h.grows
      ∙ (ap (λ xs. xs ++ at_all s.here then) g.grows ∙ (append_assoc a (at_all s.here first) (at_all s.here then)
      ∙ ap (λ xs. a ++ xs) (sym (map-append (entry_at s.here) first then))));
}

pub prepared_same : (t t' : Tables) (job : Job) (out : Outcome) (p : Prepared) → t' ≡ t → IsPrepared t job out p
    → IsPrepared t' job out p
prepared_same t t' job out p same is = subst (λ x. IsPrepared x job out p) (sym same) is

pub ends_from : (t m u : Tables) (job : Job) (out : Outcome) → m ≡ t → Ends m u job out → Ends t u job out
ends_from t m u job out same h = subst (λ (x : Tables). Ends x u job out) same h
