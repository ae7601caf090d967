-- Where each frame that was accepted had been sent, no message is strange.
use Rattle.std.proofs.Common.{ℕ, Bool, true, false, List, [], ◌∷◌, ◌≡◌, ◌<◌, Option, Some, None, length, refl, sym, ap, ◌∙◌, subst, arith, inl, inr}
use Rattle.std.specs.Prelude.{◌⊎◌, if◌then◌else◌}
use Rattle.std.specs.List.{slice_get, AllByRecursion}
use Rattle.std.specs.Option.{option_map_or}
use Rattle.std.proofs.lemmas.Bool.{lt-leb}
use Rattle.hpx_value.specs.declared.profile.Profile.{Profile}
use Rattle.hpx_journal.specs.Data.{Id, Parcel, Apply, Return, Ask, Give, Cached, Move, Go, Shipped, Arrived, Free}
use Rattle.hpx_journal.specs.Entries.{Rules, Frame}
use Rattle.hpx_journal.specs.Laws.{IsOnRoad, KeepsActLaws}
use Rattle.hpx_journal.specs.Whole.{IsCarried, part, replayed}
use Rattle.hpx_journal.proofs.Grow.{run_road}
use Rattle.hpx_journal.proofs.Start.{first}
use Rattle.hpx_part.specs.Data.{Entry}
use Rattle.hpx_part.proofs.Keyed.{slice_get_less}
use Rattle.hpx_ports.specs.declared.fabric.Wire.{Wire}
use Rattle.hpx_steps.specs.Frames.{IsForHere, MayGoTo}
use Rattle.hpx_steps.specs.Flows.{IsFlowing}
use Rattle.hpx_steps.specs.Homes.{HasHomes}
use Rattle.hpx_steps.specs.Rest.{IsPaid, AreInOrder, ArePlaced, rules_of, MovesBegan}
use Rattle.hpx_steps.specs.Turn.{at_rest}
use Rattle.hpx_tables.specs.Rules.{broken}
use Rattle.hpx_tables.specs.Strange.{is_far}
use Rattle.hpx_tables.specs.declared.strange.Broken.{Broken}
use Rattle.hpx_tables.specs.Tables.{Tables}
use Rattle.hpx_node.proofs.Numbers.{held_shown, owed_shown}
use Rattle.hpx_world.specs.Away.{IsCarrying}
use Rattle.hpx_world.specs.Sound.{Meaning, IsSound}
use Rattle.hpx_world.specs.Tracks.{MovesAreTracked}
use Rattle.hpx_world.specs.Turns.{IsStrangeFrame, IsStrangeMail}
use Rattle.hpx_world.proofs.Audited.{worth_splits}
use Rattle.hpx_world.proofs.Begun.{managed_here}
use Rattle.hpx_world.proofs.Carrying.{carrying_there}
use Rattle.hpx_world.proofs.Counted.{AreNodes, tracked_moves}
use Rattle.hpx_world.proofs.Fine.{road_fine, desk_fine}
use Rattle.hpx_world.proofs.FromOthers.{IsSentWell, road_well}
use Rattle.hpx_world.proofs.Known.{IsJoined, IsShown, AreShown}
use Rattle.hpx_world.proofs.Rested.{shown_at}
use Rattle.hpx_world.proofs.Roads.{legal_spelled}
use Rattle.hpx_world.proofs.Sound.{get_some, told_all, sound_joins, sound_legal, spells_well}
use Rattle.hpx_world.proofs.Turned.{AreLawful}
use Rattle.hpx_world.proofs.Unstrange.{desk_frees, road_frees}
use Rattle.hpx_world.proofs.Waited.{awaited, road_given, desk_given}

-- lawful outcomes keep the laws of a journal
pub lawful_now : (act_of : Meaning) (profile : Profile) (nodes : List Tables) (es : List Entry) → IsSound act_of profile nodes es → AreLawful act_of
    → KeepsActLaws (rules_of act_of (length nodes) profile)
lawful_now act_of profile nodes es sound laws = record { laws = λ kind here s a h state act. laws (length nodes) kind here s a sound.some sound.few h state act }

-- ---- what breaks a rule

free_or_not : (p : Parcel) → ((o : Id) × (p ≡ Free o)) ⊎ ((o : Id) → p ≡ Free o → ⊥)
free_or_not (Free o) = inl (o, refl)
free_or_not (Apply act) = inr (λ o e. cc)
free_or_not (Move act) = inr (λ o e. cc)
free_or_not (Go act) = inr (λ o e. cc)
free_or_not (Shipped act state) = inr (λ o e. cc)
free_or_not (Return id) = inr (λ o e. cc)
free_or_not (Ask id asker entry) = inr (λ o e. cc)
free_or_not (Give id entry) = inr (λ o e. cc)
free_or_not (Cached id place) = inr (λ o e. cc)
free_or_not (Arrived id place) = inr (λ o e. cc)

abbrev strange : ℕ → Id → ℕ → Option Broken
strange rule object kept = Some (record { rule = rule; object = object; kept = kept })

not_both : (x : Option Broken) (rule : ℕ) (object : Id) (kept : ℕ) → x ≡ None → x ≡ strange rule object kept → ⊥
not_both x rule object kept none some = let e : ◌≡◌ {A = Option Broken} None (strange rule object kept) = sym none ∙ some in cc

module _ (act_of : Meaning) (profile : Profile) (nodes : List Tables) (es : List Entry) (sound : IsSound act_of profile nodes es)
    (laws : KeepsActLaws (rules_of act_of (length nodes) profile)) (carried : IsCarried (rules_of act_of (length nodes) profile) [] es) where
  abbrev pub r : Rules
  r = rules_of act_of (length nodes) profile

  pub joined : IsJoined r es
  joined = record {
    some = sound.some;
    grammar = spells_well act_of (length nodes) profile;
    laws = laws;
    join = sound_joins act_of profile nodes es sound carried;
  }

  pub is_shown : (k : ℕ) (t : Tables) → slice_get nodes k ≡ Some t → IsShown r profile.credit_log es k t
  is_shown k t at =
      let x = sound.stand k t at in
      let told = told_all act_of profile nodes es sound k t at in
      let lt = slice_get_less nodes k t at in
      let shows = shown_at act_of profile nodes es sound (spells_well act_of (length nodes) profile) carried k t lt at in
      record {
        lt = lt;
        here = x.here;
        count = x.localities;
        credit = ap (λ (p : Profile). p.credit_log) x.tuned;
        shows = shows;
        tidy = told.stands.tidy;
        paid = subst (λ j. IsPaid r t (part j es)) x.here told.stands.paid;
        order =
            subst (λ (p : Profile). AreInOrder r (length nodes) k p.credit_log t.desk t.outgoing t.pending (part k es)) x.tuned
            (subst (λ n. AreInOrder r n k t.profile.credit_log t.desk t.outgoing t.pending (part k es)) x.localities
            (subst (λ j. AreInOrder r t.localities j t.profile.credit_log t.desk t.outgoing t.pending (part j es)) x.here told.orderly));
        begun = subst (λ j. MovesBegan r t (part j es)) x.here told.begun;
        placed = subst (λ j. ArePlaced r t (part j es)) x.here told.placed;
        flowing = subst (λ j. IsFlowing r (at_rest t) (part j es)) x.here told.flowing;
        homes = subst (λ j. HasHomes r (at_rest t) (part j es)) x.here told.homes;
        bare = told.bare;
        arrived = told.arrived;
        covered = λ o. omega (
          arith,
          held_shown t ((replayed r es).places k) o told.stands.tidy shows,
          owed_shown t ((replayed r es).places k) o told.stands.tidy shows,
          worth_splits o ((replayed r es).places k).tokens,
        );
      }

  pub are_shown : AreShown r profile.credit_log es
  are_shown k lt = let x = get_some nodes k lt in (x.0, is_shown k x.0 x.1)

  pub are_nodes : AreNodes r profile.credit_log nodes es
  are_nodes = record { count = refl; node = λ k lt. get_some nodes k lt; shown = is_shown }

  -- what is under way for moves is known
  pub moves_tracked : MovesAreTracked r nodes es
  moves_tracked o some = tracked_moves r profile.credit_log nodes es joined are_nodes o
      (managed_here r es (sound_legal act_of profile nodes es sound carried) o some) some

  -- ---- what comes

  module _ (to : ℕ) (bytes : List ℕ) (on : IsOnRoad (to, bytes) (replayed r es)) (t : Tables) (at : slice_get nodes to ≡ Some t)
      (p : Parcel) (spelled : r.parcel_of bytes ≡ Some p) where
    come_fine : ((o : Id) → p ≡ Free o → ⊥) → broken t p ≡ None
    come_fine other = road_fine r profile.credit_log nodes es joined are_nodes to t at bytes on
        (λ id entry is near. omega (
          arith,
          road_given r es id entry to bytes on is,
          awaited r profile.credit_log nodes es joined are_nodes id entry to near t (is_shown to t at),
        )) p spelled other

    come_unstrange : broken t p ≡ None
    come_unstrange = elim (free_or_not p) [
      | inl x ↦ subst (λ q. broken t q ≡ None) (sym x.1) (road_frees r profile.credit_log nodes es joined are_nodes to t at bytes on x.0 (spelled ∙ ap (λ (q : Parcel). Some q) x.1))
      | inr other ↦ come_fine other
    ]

  pub strange_frame : (to : ℕ) (bytes : List ℕ) (rule : ℕ) (object : Id) (kept : ℕ) → IsOnRoad (to, bytes) (replayed r es)
      → IsStrangeFrame nodes to bytes rule object kept → ⊥
  strange_frame to bytes rule object kept on (inl h) = not_both (broken h.0 h.2.0) rule object kept (come_unstrange to bytes on h.0 h.1 h.2.0 h.2.1) h.2.2
  strange_frame to bytes rule object kept on (inr h) =
      let there = subst (λ road. IsOnRoad (to, bytes) (record (replayed r es) { road = road })) (run_road r (first r) es) on in
      absurd (omega (arith, h.0, (legal_spelled r es (to, bytes) (sound_legal act_of profile nodes es sound carried) there).place))

  -- ---- on the own desk

  module _ (k : ℕ) (t : Tables) (at : slice_get nodes k ≡ Some t) (p : Parcel) (rest : List Parcel) (first : t.desk ≡ p ∷ rest) where
    mail_fine : ((o : Id) → p ≡ Free o → ⊥) → broken t p ≡ None
    mail_fine other = desk_fine r profile.credit_log nodes es joined are_nodes k t at p rest first
        (λ id entry is near. omega (
          arith,
          desk_given id entry t p rest first is,
          awaited r profile.credit_log nodes es joined are_nodes id entry k near t (is_shown k t at),
        )) other

    mail_unstrange : broken t p ≡ None
    mail_unstrange = elim (free_or_not p) [
      | inl x ↦ subst (λ q. broken t q ≡ None) (sym x.1) (desk_frees r profile.credit_log nodes es joined are_nodes k t at x.0 rest (first ∙ ap (λ q. q ∷ rest) x.1))
      | inr other ↦ mail_fine other
    ]

  pub strange_mail : (k rule : ℕ) (object : Id) (kept : ℕ) → IsStrangeMail nodes k rule object kept → ⊥
  strange_mail k rule object kept h = let mail = h.2.1 in not_both (broken h.0 mail.0) rule object kept (mail_unstrange k h.0 h.1 mail.0 mail.1 mail.2) mail.3

-- ---- after turns under the same rules

module _ (act_of : Meaning) (profile : Profile) (nodes : List Tables) (es : List Entry) (sound : IsSound act_of profile nodes es)
    (n : ℕ) (p : Profile) (count : length nodes ≡ n) (same : profile ≡ p) (laws : AreLawful act_of) where
  pub carrying_now : (h : Option Frame) (fl : Option (List Frame)) (tr : Option (List Wire)) → IsCarrying (rules_of act_of n p) h fl tr es
      → IsCarrying (rules_of act_of (length nodes) profile) h fl tr es
  carrying_now h fl tr c =
      subst (λ m. IsCarrying (rules_of act_of m profile) h fl tr es) (sym count)
      (subst (λ q. IsCarrying (rules_of act_of n q) h fl tr es) (sym same) c)

  module _ (h : Option Frame) (fl : Option (List Frame)) (tr : Option (List Wire)) (c : IsCarrying (rules_of act_of n p) h fl tr es) where
    -- the frame in hand is not
    pub strange_hand : (to : ℕ) (bytes : List ℕ) (rule : ℕ) (object : Id) (kept : ℕ) → h ≡ Some (to, bytes)
        → IsStrangeFrame nodes to bytes rule object kept → ⊥
    strange_hand to bytes rule object kept held odd =
        let now = subst (λ x. IsCarrying (rules_of act_of (length nodes) profile) x fl tr es) held (carrying_now h fl tr c) in
        let there = carrying_there (rules_of act_of (length nodes) profile) (to, bytes) fl tr es now in
        let on = subst (λ road. IsOnRoad (to, bytes) (record (replayed (rules_of act_of (length nodes) profile) es) { road = road }))
        (sym (run_road (rules_of act_of (length nodes) profile) (first (rules_of act_of (length nodes) profile)) es)) there in
        strange_frame act_of profile nodes es sound (lawful_now act_of profile nodes es sound laws) now.carried to bytes rule object kept on odd

    -- nor is the oldest message to an own locality
    pub strange_own : (k rule : ℕ) (object : Id) (kept : ℕ) → IsStrangeMail nodes k rule object kept → ⊥
    strange_own k rule object kept odd = strange_mail act_of profile nodes es sound (lawful_now act_of profile nodes es sound laws) (carrying_now h fl tr c).carried k rule object kept odd
