-- A job that is handed out, run and taken back.
use Rattle.std.proofs.Common.{ℕ, List, [], ◌∷◌, ◌++◌, ◌+◌, ◌≡◌, ◌≢◌, ◌<◌, Some, refl, sym, ap, ◌∙◌, subst, length, set}
use Rattle.std.specs.List.{slice_get, remove}
use Rattle.hpx_value.specs.Riders.{plain}
use Rattle.hpx_value.specs.declared.acts.Job.{Job}
use Rattle.hpx_value.specs.declared.profile.Profile.{Profile}
use Rattle.hpx_journal.specs.Data.{Id, Outcome, Ask}
use Rattle.hpx_part.specs.Data.{Entry}
use Rattle.hpx_part.proofs.Keyed.{slice_get_less}
use Rattle.hpx_node.specs.Asks.{lacking}
use Rattle.hpx_node.specs.Commits.{seen}
use Rattle.hpx_steps.specs.Calls.{with_asks}
use Rattle.hpx_steps.specs.Mail.{with_mail}
use Rattle.hpx_tables.specs.Tables.{Tables}
use Rattle.hpx_node.specs.declared.parts.Finished.{Finished}
use Rattle.hpx_node.specs.declared.parts.Finished.TheVariants.{Committed, Asking, NotRunning}
use Rattle.hpx_world.specs.declared.turns.Turned.{Turned}
use Rattle.hpx_world.specs.declared.turns.Turned.TheVariants as turned
use Rattle.hpx_world.specs.Quiet.{NoneRuns}
use Rattle.hpx_world.specs.Sound.{Meaning, IsSound}
use Rattle.hpx_world.specs.Stages.{Outside, Stage}
use Rattle.hpx_world.specs.Steps.{IsOut, DidWork}
use Rattle.hpx_world.specs.Turns.{DidFire, DidFinish, Asks}
use Rattle.hpx_world.proofs.Idle.{none_runs_at, none_twice, removed_one}
use Rattle.hpx_world.proofs.Sound.{set_same, some_is}

asks_running : (k n : ℕ) (ids : List Id) (t : Tables) → (with_asks k n ids t).running ≡ t.running
asks_running k n [] t = refl
asks_running k n (id ∷ ids) t = asks_running k (n + 1) ids (with_mail id.home (Ask id k (n + 1)) t)

module _ (act_of : Meaning) (profile : Profile) (old mid : List Tables) (e0 e1 : List Entry) (sound : IsSound act_of profile old e0)
    (k : ℕ) (job : Job) (fired : DidFire k (turned.Fired job) old mid e0 e1) where
  range : k < length old
  range = slice_get_less old k fired.before fired.there

  -- where it was handed out
  pub fired_at : job.at ≡ k
  fired_at = fired.does.starts.here ∙ (sound.stand k fired.before fired.there).here

  there_now : slice_get mid k ≡ Some fired.after
  there_now = ap (λ xs. slice_get xs k) fired.others ∙ set_same old k fired.after range

  localities_now : fired.after.localities ≡ length old
  localities_now = fired.does.writes.localities ∙ (sound.stand k fired.before fired.there).localities

  pub fired_out : (n : ℕ) → n ≡ length old → IsOut mid n job
  fired_out n same = record {
    t = fired.after;
    there = subst (λ j. slice_get mid j ≡ Some fired.after) (sym fired_at) there_now;
    localities = same ∙ sym localities_now;
    runs = fired.does.starts.runs;
  }

  module _ (none : NoneRuns old) where
    only_one : fired.after.running ≡ job.action ∷ []
    only_one = fired.does.starts.running ∙ ap (λ xs. xs ++ job.action ∷ []) (none_runs_at old k fired.before none fired.there)

    module _ (new : List Tables) (x y : Tables) (i : ℕ) (there : slice_get mid job.at ≡ Some x) (runs : slice_get x.running i ≡ Some job.action)
        (others : new ≡ set mid job.at y) (left : y.running ≡ remove x.running i) where
      same_node : x ≡ fired.after
      same_node = some_is x fired.after (sym there ∙ (ap (slice_get mid) fired_at ∙ there_now))

      none_left : y.running ≡ []
      none_left = left ∙ removed_one x.running job.action job.action i (ap (λ (t : Tables). t.running) same_node ∙ only_one) runs

      pub ended : NoneRuns new
      ended =
          subst NoneRuns (sym (others ∙ (ap (λ j. set mid j y) fired_at ∙ ap (λ xs. set xs k y) fired.others)))
          (none_twice old k fired.after y none none_left)

  asked_left : (out : Outcome) (t t' : Tables) (e2 : List Entry) (a : Asks job out e1 e2 t t') → t'.running ≡ remove t.running a.begins.i
  asked_left out t t' e2 a =
      let b = a.begins in
      ap (λ (u : Tables). u.running) b.asks
      ∙ (asks_running t.here t.asked (lacking t (seen job) out) b.paused ∙ ap (λ (u : Tables). u.running) b.pauses.rest)

  -- it leaves none out
  pub worked : (n : ℕ) (out : Outcome) (x : Turned) (new : List Tables) (e2 : List Entry) → n ≡ length old → length mid ≡ length old
      → DidFinish n job out x mid new e1 e2 → NoneRuns old → NoneRuns new
  worked n out (turned.Finished Committed) new e2 same count h none =
      let d = h.1 in
      ended none new d.before d.after d.does.ends.i d.there d.does.ends.at.runs d.others d.does.ends.running
  worked n out (turned.Finished Asking) new e2 same count h none =
      let d = h.1 in
      ended none new d.before d.after d.does.begins.i d.there d.does.begins.pauses.at.runs d.others (asked_left out d.before d.after e2 d.does)
  worked n out (turned.Finished NotRunning) new e2 same count h none =
      absurd (h.1 fired.after (same ∙ sym count) (subst (λ j. slice_get mid j ≡ Some fired.after) (sym fired_at) there_now) fired.does.starts.runs)
  worked n out _ new e2 same count h none = absurd h

  -- what was done, in all, and nothing outside
  module _ (out0 out1 : Outside) where
    abbrev from : Stage
    from = record { outside = out0; nodes = old; entries = e0 }

    abbrev onto : List Tables → List Entry → Stage
    onto new e2 = record { outside = out1; nodes = new; entries = e2 }

    did_then : (how : Finished) (new : List Tables) (e2 : List Entry) → how ≢ NotRunning
        → DidFinish (length old) job (act_of (length old) job.kind job.at job.state (plain job.action)) (turned.Finished how) mid new e1 e2 → DidWork act_of k from (onto new e2)
    did_then how new e2 runs h = record { job = job; mid = mid; between = e1; how = how; fired = fired; finished = h; runs = runs }

    did_by : (x : Turned) (new : List Tables) (e2 : List Entry) → length mid ≡ length old
        → DidFinish (length old) job (act_of (length old) job.kind job.at job.state (plain job.action)) x mid new e1 e2 → DidWork act_of k from (onto new e2)
    did_by (turned.Finished Committed) new e2 count h = did_then Committed new e2 (λ e. cc) h
    did_by (turned.Finished Asking) new e2 count h = did_then Asking new e2 (λ e. cc) h
    did_by (turned.Finished NotRunning) new e2 count h =
        absurd (h.1 fired.after (sym count) (subst (λ j. slice_get mid j ≡ Some fired.after) (sym fired_at) there_now) fired.does.starts.runs)
    did_by _ new e2 count h = absurd h

    pub did_work : (n : ℕ) (out : Outcome) (x : Turned) (new : List Tables) (e2 : List Entry) → n ≡ length old → length mid ≡ length old
        → out ≡ act_of n job.kind job.at job.state (plain job.action) → DidFinish n job out x mid new e1 e2 → DidWork act_of k from (onto new e2)
    did_work n out x new e2 same count means h =
        did_by x new e2 count
        (subst (λ o. DidFinish (length old) job o x mid new e1 e2) (means ∙ ap (λ m. act_of m job.kind job.at job.state (plain job.action)) same)
        (subst (λ m. DidFinish m job out x mid new e1 e2) same h))
