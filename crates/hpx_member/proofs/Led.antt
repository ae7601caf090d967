-- What a console keeps over each call.
use Rattle.std.proofs.Common.{ℕ, zero, suc, Bool, true, false, List, [], ◌∷◌, ◌≡◌, ◌≤◌, ◌<◌, Option, Some, refl, sym, ap, ◌∙◌, subst, inl, inr, arith, length, append-nil}
use Rattle.std.proofs.Math.Seq.{take-length, drop-length}
use Rattle.std.proofs.lemmas.Bool.{cases_Bool}
use Rattle.hpx_journal.specs.Laws.{outs, ins}
use Rattle.hpx_journal.specs.Whole.{IsClean, run_local}
use Rattle.hpx_part.specs.Data.{Entry, Line, Name}
use Rattle.hpx_part.specs.Parts.{at_boot}
use Rattle.hpx_tables.specs.Tables.{IsPassive, Tables}
use Rattle.hpx_steps.specs.Limits.{IsWithin}
use Rattle.hpx_steps.specs.Rest.{Stands, rules_of}
use Rattle.hpx_node.specs.Changes.{Writes}
use Rattle.hpx_ended.specs.Tally.{Tally, IsSpent, fresh, opened, verdict_of, waits}
use Rattle.hpx_ended.specs.Waves.{BeginsAwake, IsAtRest}
use Rattle.hpx_ended.specs.declared.round.Verdict.TheVariants.{Again, Ended, Unfinished}
use Rattle.hpx_ports.specs.Told.{followed}
use Rattle.hpx_ports.specs.declared.link.Post.{Post}
use Rattle.hpx_ports.specs.declared.link.Post.TheVariants.{Received}
use Rattle.hpx_member.specs.Bodies.{end_body, frames_got, frames_sent, heard, is_frame}
use Rattle.hpx_member.specs.Feeding.{IsIdle}
use Rattle.hpx_member.specs.Leads.{IsOfLink, IsReady, Leads, LeadsLeft, ToldSome}
use Rattle.hpx_member.specs.Rounds.{Asks, AsksBut, Ending, IsDue, IsOwnAt, IsUnasked, Asking, MayGoOn, Nothing, Refused, Spent, TakesCounts, told_all, wave_body}
use Rattle.hpx_member.specs.Seats.{Grows, IsSameSite, IsTraced, MaySend, Meaning, Sits}
use Rattle.hpx_member.specs.Serves.{IsIdleBehind}
use Rattle.hpx_member.specs.Stops.{IsOther, MayLeave}
use Rattle.hpx_member.specs.declared.console.Phase.{Phase}
use Rattle.hpx_member.specs.declared.console.Phase.TheVariants.{Unfed, Serving, LinesOver}
use Rattle.hpx_member.specs.declared.stop.MemberFault.TheVariants.{OutOfPlace, Waves}
use Rattle.hpx_member.specs.declared.stop.Stop.{Stop}
use Rattle.hpx_member.specs.declared.stop.Stop.TheVariants.{Fault}
use Rattle.hpx_member.proofs.Asked.{asks_anew, asks_asking, asks_began, asks_closed, asks_count, asks_ending, asks_fed, asks_first, asks_grown, asks_heard, asks_refused, asks_sent, asks_spent, asks_took, asks_whole}
use Rattle.hpx_member.proofs.Seated.{rules_at, rules_same, sits_fed, sits_left, sits_told, sits_whole}
use Rattle.hpx_member.proofs.Turned.{rests, sent_is, site_of, taken_is, waits_for}

pub again_done : (t : Tally) → verdict_of t ≡ Again → waits t ≡ false
again_done t h = elim (cases_Bool (waits t)) [
  | inl on ↦ absurd (let e : verdict_of t ≡ Unfinished = rw on refl in let odd : Again ≡ Unfinished = sym h ∙ e in cc)
  | inr off ↦ off
]

alone : (n : ℕ) → 1 ≤ n → (1 < n → ⊥) → n ≡ 1
alone zero some few = absurd (omega (arith, some))
alone (suc zero) some few = refl
alone (suc (suc n)) some few = absurd (few (omega arith))

module _ (act_of : Meaning) (others : ℕ) (settles : Bool) (phase : Phase) where
  grown : (t t' : Tables) (es es' : List Entry) (trace : Option (List Post)) (waves : Tally) → Asks (rules_at act_of t) settles phase (IsPassive t) es trace waves
      → IsSameSite t t' → Grows t t' es es' → Asks (rules_at act_of t') settles phase (IsPassive t') es' trace waves
  grown t t' es es' trace waves a s g =
      subst (λ r. Asks r settles phase (IsPassive t') es' trace waves) (sym (rules_same act_of t t' s))
      (subst (λ xs. Asks (rules_at act_of t) settles phase (IsPassive t') xs trace waves) (sym g.is)
      (asks_grown (rules_at act_of t) settles phase (IsPassive t) es (IsPassive t') g.later trace waves a g.unfed g.woken g.still))

  pub leads_gone : (t t' : Tables) (es es' : List Entry) (trace trace' : Option (List Post)) (waves : Tally) → Leads act_of others settles phase t es trace waves
      → Sits act_of t' es' [] trace' → IsSameSite t t' → Grows t t' es es' → MaySend trace trace' → Leads act_of others settles phase t' es' trace' waves
  leads_gone t t' es es' trace trace' waves l sits s g m = record {
    here = s.here ∙ l.here;
    members = s.localities ∙ l.members;
    sits = sits;
    asks = asks_sent (rules_at act_of t') settles phase (IsPassive t') es' trace trace' waves (grown t t' es es' trace waves l.asks s g) m;
  }

  pub leads_accepted : (t t' : Tables) (es es' : List Entry) (trace trace' : Option (List Post)) (waves : Tally) (from : ℕ) (body : List ℕ)
      → Leads act_of others settles phase t es trace waves → is_frame body ≡ true → trace' ≡ followed trace (Received from body ∷ [])
      → Sits act_of t' es' [] trace' → IsSameSite t t' → Grows t t' es es' → Leads act_of others settles phase t' es' trace' waves
  leads_accepted t t' es es' trace trace' waves from body l framed told sits s g = record {
    here = s.here ∙ l.here;
    members = s.localities ∙ l.members;
    sits = sits;
    asks = asks_heard (rules_at act_of t') settles phase (IsPassive t') es' trace trace' from body waves (grown t t' es es' trace waves l.asks s g) framed told;
  }

  pub leads_counted : (t : Tables) (es : List Entry) (trace trace' : Option (List Post)) (waves waves' : Tally) (from : ℕ) (body : List ℕ)
      → Leads act_of others settles phase t es trace waves → is_frame body ≡ false → trace' ≡ followed trace (Received from body ∷ [])
      → Sits act_of t es (heard t.here body) trace' → TakesCounts from body waves waves' → (IsSpent waves' → ⊥) → Leads act_of others settles phase t es trace' waves'
  leads_counted t es trace trace' waves waves' from body l control told sits took unspent = record {
    here = l.here;
    members = l.members;
    sits = sits_told act_of t es trace' body sits control;
    asks = asks_took (rules_at act_of t) settles phase (IsPassive t) es trace trace' from body waves waves' l.asks took unspent told;
  }

  -- nothing has changed
  pub leads_same : (t t' : Tables) (es es' : List Entry) (trace trace' : Option (List Post)) (waves : Tally) → Leads act_of others settles phase t es trace waves
      → t' ≡ t → es' ≡ es → trace' ≡ trace → Leads act_of others settles phase t' es' trace' waves
  leads_same t t' es es' trace trace' waves l tables entries traces =
      subst (λ x. Leads act_of others settles phase x es' trace' waves) (sym tables)
      (subst (λ xs. Leads act_of others settles phase t xs trace' waves) (sym entries) (subst (λ tr. Leads act_of others settles phase t es tr waves) (sym traces) l))

  pub leads_anew : (t : Tables) (es : List Entry) (trace : Option (List Post)) (waves waves' : Tally) → Leads act_of others settles phase t es trace waves
      → verdict_of waves ≡ Again → waves.begun ≡ 4294967295 → waves' ≡ fresh (length waves.answers) → Leads act_of others settles phase t es trace waves'
  leads_anew t es trace waves waves' l again last is =
      let count : length waves.answers ≡ t.localities = asks_count (rules_at act_of t) settles phase (IsPassive t) es trace waves l.asks in
      let one : length waves.answers ≡ 1 = alone (length waves.answers) (omega (arith, count, l.members))
      (λ more. l.asks.unspent (record { others = more; last = last; again = again })) in
      record {
        here = l.here;
        members = l.members;
        sits = l.sits;
        asks = asks_anew (rules_at act_of t) settles phase (IsPassive t) es trace waves waves' l.asks (again_done waves again) last one (is ∙ ap fresh count);
      }

  -- the lines are over
  pub leads_closed : (t : Tables) (es : List Entry) (trace : Option (List Post)) (waves waves' : Tally) → Leads act_of others settles phase t es trace waves
      → MayGoOn settles waves phase → waves' ≡ fresh (length waves.answers) → Leads act_of others settles LinesOver t es trace waves'
  leads_closed t es trace waves waves' l next is = record {
    here = l.here;
    members = l.members;
    sits = l.sits;
    asks = asks_closed (rules_at act_of t) settles phase (IsPassive t) es trace waves waves' l.asks next
        (is ∙ ap fresh (asks_count (rules_at act_of t) settles phase (IsPassive t) es trace waves l.asks));
  }

  -- its own numbers, where nothing is to be done
  own_here : (t : Tables) (es : List Entry) (trace : Option (List Post)) → t.here ≡ 0 → Sits act_of t es [] trace → IsPassive t
      → IsOwnAt (rules_at act_of t) es (length es) (record { sent = t.sent; taken = t.taken })
  own_here t es trace here sits passive = record {
    within = omega arith;
    sent = sent_is act_of t es sits.stands sits.seated.own ∙ ap (λ zs. length (outs zs)) (sym (take-length es));
    taken = taken_is act_of t es sits.stands sits.seated.own ∙ ap (λ zs. length (ins zs)) (sym (take-length es));
    may = λ clean. record {
      rest = subst (IsAtRest (rules_at act_of t) 0) (sym (take-length es))
          (subst (λ k. IsClean (rules_at act_of t) (at_boot (rules_at act_of t) k) es → IsAtRest (rules_at act_of t) k es) here
          (rests act_of t es sits.stands sits.seated.own passive)
          (subst (IsClean (rules_at act_of t) (at_boot (rules_at act_of t) 0)) (take-length es) clean));
      next = subst BeginsAwake (sym (drop-length es)) tt;
    };
  }

  frames_here : (t : Tables) (es : List Entry) (trace : Option (List Post)) → t.here ≡ 0 → Sits act_of t es [] trace → (tr : List Post) → trace ≡ Some tr
      → (t.sent ≡ length (frames_sent 0 tr)) × (t.taken ≡ length (frames_got 0 tr))
  frames_here t es trace here sits tr told =
      let x : IsTraced (rules_at act_of t) t.here (IsPassive t) es [] tr = sits.seated.traced tr told in (
        sent_is act_of t es sits.stands sits.seated.own ∙ (ap length (sym x.sent) ∙ ap (λ k. length (frames_sent k tr)) here),
        taken_is act_of t es sits.stands sits.seated.own ∙ (ap length (sym (append-nil (ins es)) ∙ sym x.came) ∙ ap (λ k. length (frames_got k tr)) here),
      )

  pub leads_began : (t : Tables) (es : List Entry) (trace trace' : Option (List Post)) (waves waves' : Tally) → Leads act_of others settles phase t es trace waves
      → IsPassive t → waits waves ≡ false → IsDue settles phase → waves.begun < 4294967295 → Sits act_of t es [] trace'
      → trace' ≡ followed trace (told_all (wave_body waves.begun) others)
      → waves' ≡ opened (record { sent = t.sent; taken = t.taken }) waves → Leads act_of others settles phase t es trace' waves'
  leads_began t es trace trace' waves waves' l passive done due more sits told is = record {
    here = l.here;
    members = l.members;
    sits = sits;
    asks = asks_began (rules_at act_of t) settles phase (IsPassive t) es trace trace' others (record { sent = t.sent; taken = t.taken }) waves waves' l.asks passive
        l.members done due more (own_here t es trace l.here l.sits passive) (frames_here t es trace l.here l.sits) told is;
  }

  pub leads_fed : (t t' : Tables) (es es' : List Entry) (trace : Option (List Post)) (waves waves' : Tally) (a : Name) (bytes : List ℕ)
      → Leads act_of others settles phase t es trace waves → MayGoOn settles waves phase
      → Writes (Line a bytes ∷ []) t t' es es' → Stands act_of t' es' → IsWithin es' → waves' ≡ fresh (length waves.answers)
      → Leads act_of others settles Serving t' es' trace waves'
  leads_fed t t' es es' trace waves waves' a bytes l next writes stands within is =
      let s : IsSameSite t t' = site_of t t' es es' _ writes in
      record {
        here = s.here ∙ l.here;
        members = s.localities ∙ l.members;
        sits = sits_fed act_of t t' es es' trace a bytes l.sits writes stands within;
        asks = subst (λ r. Asks r settles Serving (IsPassive t') es' trace waves') (sym (rules_same act_of t t' s))
            (subst (λ xs. Asks (rules_at act_of t) settles Serving (IsPassive t') xs trace waves') (sym writes.grows)
            (asks_fed (rules_at act_of t) settles phase (IsPassive t) es (IsPassive t') t.here a bytes trace waves waves' l.asks next
            (is ∙ ap fresh (asks_count (rules_at act_of t) settles phase (IsPassive t) es trace waves l.asks))));
      }

  -- ---- where it stops

  pub left_whole : (stop : Stop) (t : Tables) (es : List Entry) (trace : Option (List Post)) (waves : Tally) → Leads act_of others settles phase t es trace waves
      → IsOther stop → LeadsLeft act_of settles stop t es trace
  left_whole stop t es trace waves l other = record {
    left = sits_whole act_of stop t es trace l.sits;
    last = Nothing;
    asks = asks_whole (rules_at act_of t) settles phase (IsPassive t) es trace trace waves l.asks;
    closes = other;
  }

  pub left_accepted : (stop : Stop) (t t' : Tables) (es es' : List Entry) (trace trace' : Option (List Post)) (waves : Tally) (from : ℕ) (body : List ℕ)
      → Leads act_of others settles phase t es trace waves → is_frame body ≡ true → trace' ≡ followed trace (Received from body ∷ [])
      → Sits act_of t' es' (heard t'.here body) trace' → IsSameSite t t' → Grows t t' es es' → MayLeave stop → IsOther stop
      → LeadsLeft act_of settles stop t' es' trace'
  left_accepted stop t t' es es' trace trace' waves from body l framed told sits s g may other = record {
    left = sits_left act_of stop t' es' trace' body may sits framed;
    last = Nothing;
    asks = asks_whole (rules_at act_of t') settles phase (IsPassive t') es' trace' trace' waves
        (asks_heard (rules_at act_of t') settles phase (IsPassive t') es' trace trace' from body waves (grown t t' es es' trace waves l.asks s g) framed told);
    closes = other;
  }

  pub left_refused : (t : Tables) (es : List Entry) (trace trace' : Option (List Post)) (waves : Tally) (from : ℕ) (body : List ℕ)
      → Leads act_of others settles phase t es trace waves → is_frame body ≡ false → trace' ≡ followed trace (Received from body ∷ [])
      → Sits act_of t es (heard t.here body) trace' → IsUnasked waves from body → LeadsLeft act_of settles (Fault (OutOfPlace from)) t es trace'
  left_refused t es trace trace' waves from body l control told sits odd = record {
    left = sits_whole act_of (Fault (OutOfPlace from)) t es trace' (sits_told act_of t es trace' body sits control);
    last = Refused from body;
    asks = asks_refused (rules_at act_of t) settles phase (IsPassive t) es trace trace' waves l.asks from body told odd;
    closes = refl;
  }

  -- Counts came, and no wave is left
  pub left_spent : (t : Tables) (es : List Entry) (trace trace' : Option (List Post)) (waves waves' : Tally) (from : ℕ) (body : List ℕ)
      → Leads act_of others settles phase t es trace waves → is_frame body ≡ false → trace' ≡ followed trace (Received from body ∷ [])
      → Sits act_of t es (heard t.here body) trace' → TakesCounts from body waves waves' → IsSpent waves' → LeadsLeft act_of settles (Fault Waves) t es trace'
  left_spent t es trace trace' waves waves' from body l control told sits took spent = record {
    left = sits_whole act_of (Fault Waves) t es trace' (sits_told act_of t es trace' body sits control);
    last = Spent;
    asks = asks_spent (rules_at act_of t) settles phase (IsPassive t) es trace trace' from body waves waves' l.asks took spent told;
    closes = refl;
  }

  pub left_asking : (stop : Stop) (t : Tables) (es : List Entry) (trace trace' : Option (List Post)) (waves : Tally) → Leads act_of others settles phase t es trace waves
      → Sits act_of t es [] trace' → ToldSome (wave_body waves.begun) others trace trace' → IsDue settles phase → waves.begun < 4294967295 → IsOfLink stop
      → LeadsLeft act_of settles stop t es trace'
  left_asking stop t es trace trace' waves l sits told due more link = record {
    left = sits_whole act_of stop t es trace' sits;
    last = Asking waves.begun told.some;
    asks = asks_asking (rules_at act_of t) settles phase (IsPassive t) es trace trace' waves l.asks others told l.members due more;
    closes = link;
  }

  pub left_ending : (stop : Stop) (t : Tables) (es : List Entry) (trace trace' : Option (List Post)) (waves : Tally) → Leads act_of others settles phase t es trace waves
      → phase ≡ LinesOver → verdict_of waves ≡ Ended → Sits act_of t es [] trace' → ToldSome end_body others trace trace' → IsOfLink stop
      → LeadsLeft act_of settles stop t es trace'
  left_ending stop t es trace trace' waves l closed over sits told link = record {
    left = sits_whole act_of stop t es trace' sits;
    last = Ending told.some;
    asks = asks_ending (rules_at act_of t) settles phase (IsPassive t) es trace trace' waves l.asks others told.some told.is told.few l.members closed over;
    closes = link;
  }

  pub but_ending : (t : Tables) (es : List Entry) (trace trace' : Option (List Post)) (waves : Tally) → Leads act_of others settles phase t es trace waves
      → phase ≡ LinesOver → verdict_of waves ≡ Ended → trace' ≡ followed trace (told_all end_body others)
      → AsksBut (rules_of act_of t.localities t.profile) settles es trace' (Ending others)
  but_ending t es trace trace' waves l closed over told =
      asks_ending (rules_at act_of t) settles phase (IsPassive t) es trace trace' waves l.asks others others told (omega arith) l.members closed over

  pub but_nothing : (t : Tables) (es : List Entry) (trace : Option (List Post)) (waves : Tally) → Leads act_of others settles phase t es trace waves
      → AsksBut (rules_of act_of t.localities t.profile) settles es trace Nothing
  but_nothing t es trace waves l = asks_whole (rules_at act_of t) settles phase (IsPassive t) es trace trace waves l.asks

  -- a wave was begun, and told to all
  pub leads_told : (t t' : Tables) (es es' : List Entry) (trace trace' : Option (List Post)) (waves waves' : Tally) (number sent taken : ℕ) (body bytes : List ℕ)
      → Leads act_of others settles phase t es trace waves → IsPassive t → waits waves ≡ false → IsDue settles phase → waves.begun < 4294967295 → Sits act_of t' es' [] trace'
      → t' ≡ t → es' ≡ es
      → trace' ≡ followed trace (told_all bytes others) → bytes ≡ body → body ≡ wave_body number → number ≡ waves.begun → sent ≡ t.sent → taken ≡ t.taken
      → waves' ≡ opened (record { sent = sent; taken = taken }) waves → Leads act_of others settles phase t' es' trace' waves'
  leads_told t t' es es' trace trace' waves waves' number sent taken body bytes l passive done due more sits tables entries told same is number_is sent_is taken_is opens =
      leads_same t t' es es' trace' trace' waves'
      (leads_began t es trace trace' waves waves' l passive done due more
      (subst (λ x. Sits act_of x es [] trace') tables (subst (λ xs. Sits act_of t' xs [] trace') entries sits))
      (subst (λ b. trace' ≡ followed trace (told_all b others)) (same ∙ (is ∙ ap wave_body number_is)) told)
      (subst (λ a. waves' ≡ opened (record { sent = a; taken = t.taken }) waves) sent_is
      (subst (λ b. waves' ≡ opened (record { sent = sent; taken = b }) waves) taken_is opens)))
      tables entries refl

  -- or to some
  pub left_told : (stop : Stop) (t t' : Tables) (es es' : List Entry) (trace trace' : Option (List Post)) (waves : Tally) (number : ℕ) (body bytes : List ℕ)
      → Leads act_of others settles phase t es trace waves → Sits act_of t' es' [] trace' → t' ≡ t → es' ≡ es → ToldSome bytes others trace trace'
      → bytes ≡ body → body ≡ wave_body number → number ≡ waves.begun → IsDue settles phase → waves.begun < 4294967295 → IsOfLink stop
      → LeadsLeft act_of settles stop t' es' trace'
  left_told stop t t' es es' trace trace' waves number body bytes l sits tables entries told same is number_is due more link =
      left_asking stop t' es' trace trace' waves (leads_same t t' es es' trace trace waves l tables entries refl) sits
      (subst (λ b. ToldSome b others trace trace') (same ∙ (is ∙ ap wave_body number_is)) told) due more link

  -- the end was told to all
  pub but_ended : (t t' : Tables) (es es' : List Entry) (trace trace' : Option (List Post)) (waves : Tally) → Leads act_of others settles phase t es trace waves
      → phase ≡ LinesOver → verdict_of waves ≡ Ended → t' ≡ t → es' ≡ es → trace' ≡ followed trace (told_all end_body others)
      → AsksBut (rules_of act_of t'.localities t'.profile) settles es' trace' (Ending others)
  but_ended t t' es es' trace trace' waves l closed over tables entries told =
      but_ending t' es' trace trace' waves (leads_same t t' es es' trace trace waves l tables entries refl) closed over told

  -- or to some
  pub left_ended : (stop : Stop) (t t' : Tables) (es es' : List Entry) (trace trace' : Option (List Post)) (waves : Tally)
      → Leads act_of others settles phase t es trace waves → phase ≡ LinesOver → verdict_of waves ≡ Ended → Sits act_of t' es' [] trace'
      → t' ≡ t → es' ≡ es
      → ToldSome end_body others trace trace' → IsOfLink stop → LeadsLeft act_of settles stop t' es' trace'
  left_ended stop t t' es es' trace trace' waves l closed over sits tables entries told link =
      left_ending stop t' es' trace trace' waves (leads_same t t' es es' trace trace waves l tables entries refl) closed over sits told link

  -- ---- where nothing is to be done

  pub idle_ready : (t : Tables) (es : List Entry) (trace : Option (List Post)) → t.here ≡ 0 → Sits act_of t es [] trace → IsReady t
      → IsIdleBehind (rules_of act_of t.localities t.profile) es
  idle_ready t es trace here sits ready =
      subst (λ k. IsClean (rules_at act_of t) (at_boot (rules_at act_of t) k) es → IsIdle (run_local (rules_at act_of t) (at_boot (rules_at act_of t) k) es)) here
      (λ clean.
      let rest : IsAtRest (rules_at act_of t) t.here es = rests act_of t es sits.stands sits.seated.own ready.passive clean in
      record { quiet = rest.still; answered = sym (waits_for act_of t es sits.stands sits.seated.own clean) ∙ ready.answered })

  pub leads_ready : (t : Tables) (es : List Entry) (trace : Option (List Post)) (waves : Tally) → Leads act_of others settles phase t es trace waves → IsReady t
      → IsIdleBehind (rules_of act_of t.localities t.profile) es
  leads_ready t es trace waves l ready = idle_ready t es trace l.here l.sits ready

-- ---- how far the lines are

-- a line may be fed, or the lines be over
pub goes_on : (settles : Bool) (t : Tally) (phase : Phase) → phase ≡ Serving → waits t ≡ false → (settles ≡ true → verdict_of t ≡ Ended) → MayGoOn settles t phase
goes_on settles t phase is done ended = subst (MayGoOn settles t) (sym is) (done, ended)

-- a wave is due
pub due_over : (settles : Bool) (phase : Phase) → phase ≡ LinesOver → IsDue settles phase
due_over settles phase is = subst (IsDue settles) (sym is) tt

pub due_serving : (settles : Bool) (phase : Phase) → phase ≡ Serving → settles ≡ true → IsDue settles phase
due_serving settles phase is on = subst (IsDue settles) (sym is) on

pub due_same : (settles settles' : Bool) (phase phase' : Phase) → settles' ≡ settles → phase' ≡ phase → IsDue settles phase → IsDue settles' phase'
due_same settles settles' phase phase' same is due = subst (λ s. IsDue s phase') (sym same) (subst (IsDue settles) (sym is) due)

-- ---- at the start

pub leads_first : (act_of : Meaning) (others : ℕ) (settles : Bool) (t : Tables) (es : List Entry) (trace : Option (List Post)) (waves : Tally) → t.here ≡ 0 → t.localities ≡ suc others
    → Sits act_of t es [] trace → es ≡ [] → ((tr : List Post) → trace ≡ Some tr → tr ≡ []) → waves ≡ fresh t.localities
    → Leads act_of others settles Unfed t es trace waves
leads_first act_of others settles t es trace waves here members sits none empty is = record {
  here = here;
  members = members;
  sits = sits;
  asks = asks_first (rules_at act_of t) settles (IsPassive t) es trace waves none empty is;
}

-- ---- waves

pub waits_fresh : (n : ℕ) → waits (fresh n) ≡ false
waits_fresh zero = refl
waits_fresh (suc n) = waits_fresh n

pub ended_done : (t : Tally) → verdict_of t ≡ Ended → waits t ≡ false
ended_done t h = elim (cases_Bool (waits t)) [
  | inl on ↦ absurd (let e : verdict_of t ≡ Unfinished = rw on refl in let odd : Ended ≡ Unfinished = sym h ∙ e in cc)
  | inr off ↦ off
]
