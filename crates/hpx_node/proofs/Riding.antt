-- What a commit leaves is sent, its rider is merged or given up, and the rest is given up: call by call.
use Rattle.std.proofs.lemmas.Bool.Decides.{nat_tests}
use Rattle.hpx_tables.specs.Merged.{is_like}
use Rattle.hpx_node.proofs.Common.{and_true, arith, cond, list_any, may_merge, merged_in, nat_lt, Return, set, true, with_mail, with_rider, ◌<◌, Due, Entry, Event, Id, List, OnlyLeaves, OnlySends, Some, Standing, Tables, ap, append_assoc, at_all, at_all_append, rider_events, slice_get, sym, ups, with_done_told, with_due, with_riders, with_told, written_due, ℕ, ◌++◌, ◌∙◌, ◌≡◌}

module _ (j : ℕ) (due : List Due) (riders loose told : List Id) (t m n u : Tables) (pays : OnlySends t m) (merges : OnlyLeaves m n) (gives : OnlySends n u) where
  pub leaves_then : OnlyLeaves t u
  leaves_then =
      gives
      ∙ (ap (λ (y : Tables). record y { serial = u.serial; accepted = u.accepted; desk = u.desk; outgoing = u.outgoing; queued = u.queued; records = u.records }) merges
      ∙ (ap (λ (y : Tables). record y { serial = u.serial; accepted = u.accepted; desk = u.desk; outgoing = u.outgoing; queued = u.queued; records = u.records; objects = n.objects }) pays
      ∙ ap (λ os. record t { serial = u.serial; accepted = u.accepted; desk = u.desk; outgoing = u.outgoing; queued = u.queued; records = u.records; objects = os })
      (sym (ap (λ (y : Tables). y.objects) gives))))

  module _ (x : Standing) (there : slice_get t.objects j ≡ Some x) where
    still : slice_get m.objects j ≡ Some x
    still = ap (λ (y : Tables). slice_get y.objects j) pays ∙ there

    pub done_then : m ≡ with_due due t → ((y : Standing) → slice_get m.objects j ≡ Some y → n ≡ with_riders j y riders m) → u ≡ with_told told loose n → u ≡ with_done_told told j x due riders loose t
    done_then a b c = c ∙ (ap (with_told told loose) (b x still) ∙ ap (λ y. with_told told loose (with_riders j x riders y)) a)

    pub done_written : (e0 e1 e2 e3 : List Entry) → e1 ≡ e0 ++ at_all t.here (written_due t.here t.serial due)
        → ((y : Standing) → slice_get m.objects j ≡ Some y → e2 ≡ e1 ++ at_all m.here (rider_events m.profile.credit_log y.state.ids riders))
        → e3 ≡ e2 ++ at_all n.here (ups loose)
        → e3 ≡ e0 ++ at_all t.here (written_due t.here t.serial due ++ (rider_events t.profile.credit_log x.state.ids riders ++ ups loose))
    done_written e0 e1 e2 e3 a b c =
        let es : List Event = written_due t.here t.serial due in
        let here : n.here ≡ t.here = ap (λ (y : Tables). y.here) merges ∙ ap (λ (y : Tables). y.here) pays in
        let rs : List Event = rider_events t.profile.credit_log x.state.ids riders in
        let b' : e2 ≡ e1 ++ at_all t.here rs = b x still ∙ ap (λ (y : Tables). e1 ++ at_all y.here (rider_events y.profile.credit_log x.state.ids riders)) pays in
        c ∙ (ap (λ k. e2 ++ at_all k (ups loose)) here
        ∙ (ap (λ es. es ++ at_all t.here (ups loose)) (b' ∙ ap (λ xs. xs ++ at_all t.here rs) a)
        ∙ (append_assoc (e0 ++ at_all t.here es) (at_all t.here rs) (at_all t.here (ups loose))
        ∙ (append_assoc e0 (at_all t.here es) (at_all t.here rs ++ at_all t.here (ups loose))
        ∙ ap (λ xs. e0 ++ xs) (sym (at_all_append t.here es (rs ++ ups loose) ∙ ap (λ xs. at_all t.here es ++ xs) (at_all_append t.here rs (ups loose))))))))

-- ---- a rider

less_than : (a b : ℕ) → nat_lt a b ≡ true → a < b
less_than a b t = grind (arith, nat_tests)

-- one that may be merged has a log below that of a new object
pub merges_below : (most : ℕ) (rider : Id) (log : ℕ) (ids : List Id) → may_merge most rider log ids ≡ true → log < most
merges_below most rider log ids may = less_than log most (and_true (nat_lt log most) (list_any (is_like rider log) ids) may).0

-- it is merged
pub merged_then : (j : ℕ) (x y : Standing) (rider : Id) (log : ℕ) (t : Tables) → rider.log ≡ Some log → may_merge t.profile.credit_log rider log x.state.ids ≡ true → y ≡ merged_in rider log x
    → record t { objects = set t.objects j y } ≡ with_rider j x rider rider.log t
merged_then j x y rider log t has may is =
    ap (λ z. record t { objects = set t.objects j z }) is
    ∙ sym (ap (λ l. with_rider j x rider l t) has ∙ ap (λ b. cond b (record t { objects = set t.objects j (merged_in rider log x) }) (with_mail rider.home (Return rider) t)) may)
