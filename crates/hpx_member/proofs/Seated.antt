-- What a member keeps over each call.
use Rattle.std.proofs.Common.{ℕ, List, [], ◌∷◌, ◌++◌, ◌≡◌, ◌≤◌, Option, Some, None, true, false, refl, sym, ap, ◌∙◌, subst, inl, inr, arith, length, append-nil, append_assoc}
use Rattle.hpx_journal.specs.Entries.{Frame, Rules}
use Rattle.hpx_journal.specs.Sessions.{FeedsNothing}
use Rattle.hpx_part.specs.Data.{Entry, In, Line, Name, Out}
use Rattle.hpx_tables.specs.Tables.{IsPassive, Tables}
use Rattle.hpx_steps.specs.Frames.{IsSpelled}
use Rattle.hpx_steps.specs.Limits.{IsWithin}
use Rattle.hpx_steps.specs.Rest.{Stands, rules_of}
use Rattle.hpx_node.specs.Changes.{Writes}
use Rattle.hpx_node.specs.Handled.{Takes}
use Rattle.hpx_node.proofs.Passive.{spells_none}
use Rattle.hpx_ports.specs.Told.{followed}
use Rattle.hpx_ports.specs.declared.link.Post.{Post}
use Rattle.hpx_ports.specs.declared.link.Post.TheVariants.{Sent, Received}
use Rattle.hpx_member.specs.Bodies.{counts_of, heard, is_frame}
use Rattle.hpx_member.specs.declared.bodies.Told.{Told}
use Rattle.hpx_member.specs.Seats.{Grows, IsSameSite, IsSeated, IsTraced, Meaning, Sits, Stays}
use Rattle.hpx_member.specs.Stops.{MayLeave, SitsLeft}
use Rattle.hpx_member.specs.declared.stop.Stop.{Stop}
use Rattle.hpx_ended.specs.Waves.{BeginsAwake}
use Rattle.hpx_member.proofs.Grown.{all-append, awake-append, none_later, seated_fed, seated_said}
use Rattle.hpx_member.proofs.Calls.{accepted, acted, answered, listened, pumped, unheard}
use Rattle.hpx_member.proofs.Written.{begins_in, begins_line, begins_out}
use Rattle.hpx_member.proofs.Turned.{rests, sent_is, site_of, taken_is}

module _ (act_of : Meaning) where
  abbrev pub rules_at : Tables → Rules
  rules_at t = rules_of act_of t.localities t.profile

  -- the same site has the same rules
  pub rules_same : (t t' : Tables) → IsSameSite t t' → rules_at t' ≡ rules_at t
  rules_same t t' s = ap (λ n. rules_of act_of n t'.profile) s.localities ∙ ap (λ p. rules_of act_of t.localities p) s.profile

  seated_as : (t t' : Tables) (es : List Entry) (rest : List Frame) (trace : Option (List Post)) → IsSameSite t t'
      → IsSeated (rules_at t) t'.here (IsPassive t') es rest trace → IsSeated (rules_at t') t'.here (IsPassive t') es rest trace
  seated_as t t' es rest trace s seated = subst (λ r. IsSeated r t'.here (IsPassive t') es rest trace) (sym (rules_same t t' s)) seated

  pub sits_acted : (t t' : Tables) (es es' : List Entry) (trace : Option (List Post)) → Sits act_of t es [] trace → Stays act_of t t' es es'
      → Sits act_of t' es' [] trace
  sits_acted t t' es es' trace sits stays = record {
    stands = stays.stands;
    within = stays.within;
    seated = seated_as t t' es' [] trace stays.site
        (acted (rules_at t) t.here t'.here (IsPassive t) (IsPassive t') es es' trace sits.seated stays.inside
        (λ passive. let same = stays.still passive in (subst IsPassive (sym same.0) passive, same.1)) stays.site.here);
  }

  pub sits_sent : (t t' : Tables) (es es' : List Entry) (trace trace' : Option (List Post)) (to : ℕ) (frame bytes : List ℕ) → Sits act_of t es [] trace
      → IsSpelled t to frame → is_frame frame ≡ true → Writes (Out to frame ∷ []) t t' es es' → Stands act_of t' es' → IsWithin es'
      → trace' ≡ followed trace (Sent to bytes ∷ []) → bytes ≡ frame → Sits act_of t' es' [] trace'
  sits_sent t t' es es' trace trace' to frame bytes sits spelled framed writes stands within told same = record {
    stands = stands;
    within = within;
    seated = seated_as t t' es' [] trace' (site_of t t' es es' _ writes)
        (pumped (rules_at t) t.here t'.here (IsPassive t) (IsPassive t') es es' trace trace' to frame bytes sits.seated (begins_out t t' es es' to frame writes)
        framed (λ passive. spells_none t to frame passive spelled) writes.here told same);
  }

  pub sits_heard : (t : Tables) (es : List Entry) (trace trace' : Option (List Post)) (from : ℕ) (body : List ℕ) → Sits act_of t es [] trace
      → trace' ≡ followed trace (Received from body ∷ []) → Sits act_of t es (heard t.here body) trace'
  sits_heard t es trace trace' from body sits told = record {
    stands = sits.stands;
    within = sits.within;
    seated = listened (rules_at t) t.here (IsPassive t) es trace trace' from body sits.seated told;
  }

  pub sits_taken : (t t' : Tables) (es es' : List Entry) (trace : Option (List Post)) (body : List ℕ) → Sits act_of t es (heard t.here body) trace
      → is_frame body ≡ true → Takes body t t' es es' → Stands act_of t' es' → IsWithin es' → Sits act_of t' es' [] trace
  sits_taken t t' es es' trace body sits framed takes stands within = record {
    stands = stands;
    within = within;
    seated = seated_as t t' es' [] trace (site_of t t' es es' _ takes.writes)
        (accepted (rules_at t) t.here t'.here (IsPassive t) (IsPassive t') es es' trace body sits.seated framed (begins_in t t' es es' body takes) takes.writes.here);
  }

  -- nothing has changed
  pub sits_same : (t t' : Tables) (es es' : List Entry) (rest : List Frame) (trace trace' : Option (List Post)) → Sits act_of t es rest trace
      → t' ≡ t → es' ≡ es → trace' ≡ trace → Sits act_of t' es' rest trace'
  sits_same t t' es es' rest trace trace' sits tables entries traces =
      subst (λ x. Sits act_of x es' rest trace') (sym tables)
      (subst (λ xs. Sits act_of t xs rest trace') (sym entries) (subst (λ tr. Sits act_of t es rest tr) (sym traces) sits))

  pub sits_answered : (t : Tables) (es : List Entry) (trace trace' : Option (List Post)) (to : ℕ) (body bytes : List ℕ) (c : Told)
      → Sits act_of t es [] trace → IsPassive t → counts_of body ≡ Some c → c.sent ≡ t.sent → c.taken ≡ t.taken
      → trace' ≡ followed trace (Sent to bytes ∷ []) → bytes ≡ body → Sits act_of t es [] trace'
  sits_answered t es trace trace' to body bytes c sits passive counts sent taken told same = record {
    stands = sits.stands;
    within = sits.within;
    seated = answered (rules_at t) t.here (IsPassive t) es trace trace' to body bytes c sits.seated passive
        (rests act_of t es sits.stands sits.seated.own passive) counts
        (sent ∙ sent_is act_of t es sits.stands sits.seated.own) (taken ∙ taken_is act_of t es sits.stands sits.seated.own) told same;
  }

  -- a word of control was sent that tells no numbers
  pub sits_said : (t : Tables) (es : List Entry) (trace trace' : Option (List Post)) (to : ℕ) (body : List ℕ) → Sits act_of t es [] trace
      → is_frame body ≡ false → counts_of body ≡ None → trace' ≡ followed trace (Sent to body ∷ []) → Sits act_of t es [] trace'
  sits_said t es trace trace' to body sits control silent told = record {
    stands = sits.stands;
    within = sits.within;
    seated = subst (λ tr. IsSeated (rules_at t) t.here (IsPassive t) es [] tr) (sym told)
        (seated_said (rules_at t) t.here (IsPassive t) es trace to body sits.seated control silent);
  }

  -- a line was fed
  pub sits_fed : (t t' : Tables) (es es' : List Entry) (trace : Option (List Post)) (a : Name) (bytes : List ℕ) → Sits act_of t es [] trace
      → Writes (Line a bytes ∷ []) t t' es es' → Stands act_of t' es' → IsWithin es' → Sits act_of t' es' [] trace
  sits_fed t t' es es' trace a bytes sits writes stands within = record {
    stands = stands;
    within = within;
    seated = seated_as t t' es' [] trace (site_of t t' es es' _ writes)
        (subst (λ k. IsSeated (rules_at t) k (IsPassive t') es' [] trace) (sym writes.here)
        (seated_fed (rules_at t) t.here (IsPassive t) (IsPassive t') es es' trace a bytes sits.seated (begins_line t t' es es' a bytes writes)));
  }

  -- a word of control leaves nothing to accept
  pub sits_told : (t : Tables) (es : List Entry) (trace : Option (List Post)) (body : List ℕ) → Sits act_of t es (heard t.here body) trace
      → is_frame body ≡ false → Sits act_of t es [] trace
  sits_told t es trace body sits control = record {
    stands = sits.stands;
    within = sits.within;
    seated = unheard (rules_at t) t.here (IsPassive t) es trace body sits.seated control;
  }

  -- a frame is left that was not accepted
  pub sits_left : (stop : Stop) (t : Tables) (es : List Entry) (trace : Option (List Post)) (body : List ℕ) → MayLeave stop
      → Sits act_of t es (heard t.here body) trace → is_frame body ≡ true → SitsLeft act_of stop t es trace
  sits_left stop t es trace body may sits framed =
      let one : heard t.here body ≡ (t.here, body) ∷ [] = rw framed refl in
      inr (may, ((t.here, body), subst (λ rest. Sits act_of t es rest trace) one sits))

  -- none is left
  pub sits_whole : (stop : Stop) (t : Tables) (es : List Entry) (trace : Option (List Post)) → Sits act_of t es [] trace → SitsLeft act_of stop t es trace
  sits_whole stop t es trace sits = inl sits

  -- at the start
  pub sits_first : (t : Tables) (es : List Entry) (trace : Option (List Post)) → Stands act_of t [] → IsWithin [] → IsPassive t
      → ((tr : List Post) → trace ≡ Some tr → tr ≡ []) → es ≡ [] → Sits act_of t es [] trace
  sits_first t es trace stands within passive empty none =
      subst (λ xs. Sits act_of t xs [] trace) (sym none)
      (record {
        stands = stands;
        within = within;
        seated = record {
          own = tt;
          traced = λ tr told.
              subst (IsTraced (rules_at t) t.here (IsPassive t) [] []) (sym (empty tr told))
              (record { sent = refl; came = refl; lengths = []; told = refl; still = tt });
        };
      })

-- ---- how the journal grows

pub grows_same : (t t' : Tables) (es es' : List Entry) → t' ≡ t → es' ≡ es → Grows t t' es es'
grows_same t t' es es' tables entries = record {
  later = [];
  is = entries ∙ sym (append-nil es);
  unfed = tt;
  woken = λ passive. tt;
  still = λ passive none. subst IsPassive (sym tables) passive;
}

pub grows_acted : (act_of : Meaning) (t t' : Tables) (es es' : List Entry) → Stays act_of t t' es es' → Grows t t' es es'
grows_acted act_of t t' es es' s = record {
  later = s.inside.later;
  is = s.inside.is;
  unfed = s.inside.unfed;
  woken = λ passive.
      let short : length (es ++ s.inside.later) ≤ length es = omega (arith, ap length (sym s.inside.is ∙ (s.still passive).1)) in
      subst BeginsAwake (sym (none_later es s.inside.later short)) tt;
  still = λ passive none. subst IsPassive (sym (s.still passive).0) passive;
}

pub grows_sent : (t t' : Tables) (es es' : List Entry) (to : ℕ) (frame : List ℕ) → IsSpelled t to frame → Writes (Out to frame ∷ []) t t' es es'
    → Grows t t' es es'
grows_sent t t' es es' to frame spelled writes =
    let b = begins_out t t' es es' to frame writes in
    record {
      later = record { at = t.here; event = Out to frame } ∷ b.later;
      is = b.is;
      unfed = (tt, b.unfed);
      woken = λ passive. absurd (spells_none t to frame passive spelled);
      still = λ passive none. absurd (spells_none t to frame passive spelled);
    }

pub grows_taken : (t t' : Tables) (es es' : List Entry) (bytes : List ℕ) → Takes bytes t t' es es' → Grows t t' es es'
grows_taken t t' es es' bytes takes =
    let b = begins_in t t' es es' bytes takes in
    record {
      later = record { at = t.here; event = In bytes } ∷ b.later;
      is = b.is;
      unfed = (tt, b.unfed);
      woken = λ passive. tt;
      still = λ passive none. absurd (cc);
    }

-- one call behind another
pub grows_then : (t mid t' : Tables) (es between es' : List Entry) → Grows t mid es between → Grows mid t' between es' → Grows t t' es es'
grows_then t mid t' es between es' a b = record {
  later = a.later ++ b.later;
  is = b.is ∙ (ap (λ xs. xs ++ b.later) a.is ∙ append_assoc es a.later b.later);
  unfed = all-append (λ e. FeedsNothing e.event) a.later b.later a.unfed b.unfed;
  woken = λ passive. awake-append a.later b.later (λ none. b.woken (a.still passive none)) (a.woken passive);
  still = λ passive none. b.still (a.still passive (front_none a.later b.later none)) (rest_none a.later b.later none);
}
  where
    front_none : (xs ys : List Entry) → xs ++ ys ≡ [] → xs ≡ []
    front_none [] ys h = refl
    front_none (x ∷ xs) ys h = absurd (cc)

    rest_none : (xs ys : List Entry) → xs ++ ys ≡ [] → ys ≡ []
    rest_none [] ys h = h
    rest_none (x ∷ xs) ys h = absurd (cc)
