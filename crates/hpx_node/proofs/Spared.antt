-- Memory is made, and nothing else changes.
use Rattle.hpx_node.proofs.Common.{Book, Broken, Entry, Event, In, List, Mail, None, OnlySpare, Option, Parcel, Tables, Writes, ap, arith, at_all, broken, broken_near, effects, get_or, kind_of, min, near_right, subst, sym, ℕ, ◌++◌, ◌-◌, ◌∙◌, ◌∷◌, ◌≡◌, ◌≤◌}
use Rattle.hpx_node.proofs.Arrived.{effects_same}
use Rattle.hpx_node.proofs.Right.{near_popped}
use Rattle.hpx_node.proofs.Same.{writes_then}

-- a message less on the desk leaves no less memory
pub spare_popped : (n accepted desk desk' rest : ℕ) → n ≤ min (min accepted desk) rest → desk ≤ desk' → n ≤ min (min accepted desk') rest
spare_popped n accepted desk desk' rest h more = omega (arith, h, more)

module _ (t m : Tables) (p q : Parcel) (rest : List Parcel) (x : Option Broken) (same : m ≡ t) (first : m.desk ≡ p ∷ rest)
    (is : q ≡ get_or t.desk 0 q) (told : x ≡ broken t q) (none : x ≡ None) where
  pub first_there : t.desk ≡ p ∷ rest
  first_there = sym (ap (λ (u : Tables). u.desk) same) ∙ first

  pub one : q ≡ p
  one = is ∙ ap (λ (d : List Parcel). get_or d 0 q) first_there

  pub none_here : broken t p ≡ None
  none_here = subst (λ (y : Parcel). broken t y ≡ None) one (sym told ∙ none)

  pub mail_right : broken_near (record m { desk = rest }) p ≡ None
  mail_right =
      let at : broken_near (record t { desk = p ∷ rest }) p ≡ None =
      subst (λ (d : List Parcel). broken_near (record t { desk = d }) p ≡ None) first_there (near_right t p none_here).1 in
      subst (λ (y : Tables). broken_near (record y { desk = rest }) p ≡ None) (sym same) (near_popped (record t { desk = rest }) p at)

-- what is written, with what follows
pub cleared_writes : (t m t' u : Tables) (b n : Book) (p : Parcel) (rest : List Parcel) (entries later : List Entry) (more : List Event) → OnlySpare t m b n
    → Writes (Mail (kind_of p) ∷ effects (record m { desk = rest }) p) (record m { desk = rest }) t' n.entries entries → Writes more t' u entries later
    → Writes (Mail (kind_of p) ∷ (effects t p ++ more)) t u b.entries later
cleared_writes t m t' u b n p rest entries later more same writes wrote =
    let events : effects (record m { desk = rest }) p ≡ effects t p =
    effects_same m m.taken rest p ∙ ap (λ (y : Tables). effects y p) same.tables in
    let here : m.here ≡ t.here = ap (λ (u : Tables). u.here) same.tables in
    writes_then (Mail (kind_of p) ∷ effects t p) more t t' u b.entries entries later
    (record {
      here = writes.here ∙ here;
      localities = writes.localities ∙ ap (λ (v : Tables). v.localities) same.tables;
      profile = writes.profile ∙ ap (λ (v : Tables). v.profile) same.tables;
      grows = writes.grows
          ∙ (ap (λ es. es ++ at_all m.here (Mail (kind_of p) ∷ effects (record m { desk = rest }) p)) same.entries
          ∙ (ap (λ k. b.entries ++ at_all k (Mail (kind_of p) ∷ effects (record m { desk = rest }) p)) here
          ∙ ap (λ es. b.entries ++ at_all t.here (Mail (kind_of p) ∷ es)) events));
    })
    wrote

pub took_writes : (t m t' u : Tables) (b n : Book) (p : Parcel) (bytes frame : List ℕ) (entries later : List Entry) (more : List Event) → OnlySpare t m b n → bytes ≡ frame
    → Writes (In bytes ∷ effects m p) m t' n.entries entries → Writes more t' u entries later → Writes (In frame ∷ (effects t p ++ more)) t u b.entries later
took_writes t m t' u b n p bytes frame entries later more same copy writes wrote =
    let here : m.here ≡ t.here = ap (λ (u : Tables). u.here) same.tables in
    writes_then (In frame ∷ effects t p) more t t' u b.entries entries later
    (record {
      here = writes.here ∙ here;
      localities = writes.localities ∙ ap (λ (v : Tables). v.localities) same.tables;
      profile = writes.profile ∙ ap (λ (v : Tables). v.profile) same.tables;
      grows = writes.grows
          ∙ (ap (λ es. es ++ at_all m.here (In bytes ∷ effects m p)) same.entries
          ∙ (ap (λ k. b.entries ++ at_all k (In bytes ∷ effects m p)) here
          ∙ (ap (λ es. b.entries ++ at_all t.here (In bytes ∷ es)) (ap (λ (y : Tables). effects y p) same.tables)
          ∙ ap (λ (bs : List ℕ). b.entries ++ at_all t.here (In bs ∷ effects t p)) copy)));
    })
    wrote

pub mail_by : (t m : Tables) (b n : Book) (p q : Parcel) (rest : List Parcel) (x : Option Broken) → OnlySpare t m b n
    → m.desk ≡ p ∷ rest → q ≡ get_or t.desk 0 q → x ≡ broken t q → x ≡ None → broken_near (record m { desk = rest }) p ≡ None
mail_by t m b n p q rest x same first is told none = mail_right t m p q rest x same.tables first is told none
