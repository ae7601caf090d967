-- What follows from what each action and each id is.
use Rattle.std.proofs.Common.{List}
use Rattle.std.specs.List.{AllByRecursion}
use Rattle.hpx_journal.specs.Data.{Id, Act}
use Rattle.hpx_journal.specs.Entries.{Frame, Rules, Standing, Travel}
use Rattle.hpx_journal.specs.Frames.{acts_in, travels_in}
use Rattle.hpx_journal.specs.Names.{due_ids}
use Rattle.hpx_journal.specs.Whole.{Space}
use Rattle.hpx_journal.specs.Natives.{EachAct, EachName}
use Rattle.hpx_journal.proofs.Alls.{all-map, all-zip}

module _ (r : Rules) (w : Space) where
  pub each_act_map : (P Q : Act → Type 0) → ((act : Act) → P act → Q act) → EachAct r P w → EachAct r Q w
  each_act_map P Q f h = record {
    waiting = λ k i. all-map P Q f (w.places k).waiting (h.waiting k i);
    fired = λ k i. all-map P Q f (w.places k).fired (h.fired k i);
    road = all-map (λ x. AllByRecursion P (acts_in (r.parcel_of x.1))) (λ x. AllByRecursion Q (acts_in (r.parcel_of x.1)))
        (λ x i. all-map P Q f (acts_in (r.parcel_of x.1)) i) w.road h.road;
  }

  each_act_zip : (P Q R : Act → Type 0) → ((act : Act) → P act → Q act → R act) → EachAct r P w → EachAct r Q w → EachAct r R w
  each_act_zip P Q R f h i = record {
    waiting = λ k b. all-zip P Q R f (w.places k).waiting (h.waiting k b) (i.waiting k b);
    fired = λ k b. all-zip P Q R f (w.places k).fired (h.fired k b) (i.fired k b);
    road = all-zip (λ x. AllByRecursion P (acts_in (r.parcel_of x.1))) (λ x. AllByRecursion Q (acts_in (r.parcel_of x.1)))
        (λ x. AllByRecursion R (acts_in (r.parcel_of x.1))) (λ x a b. all-zip P Q R f (acts_in (r.parcel_of x.1)) a b) w.road h.road i.road;
  }

  module _ (P Q R : Id → Type 0) (f : (o : Id) → P o → Q o → R o) where
    zip_ids : {X : Type 0} (ids_of : X → List Id) (xs : List X) → AllByRecursion (λ x. AllByRecursion P (ids_of x)) xs
        → AllByRecursion (λ x. AllByRecursion Q (ids_of x)) xs → AllByRecursion (λ x. AllByRecursion R (ids_of x)) xs
    zip_ids {X} ids_of xs h i =
        all-zip (λ x. AllByRecursion P (ids_of x)) (λ x. AllByRecursion Q (ids_of x)) (λ x. AllByRecursion R (ids_of x))
        (λ x a b. all-zip P Q R f (ids_of x) a b) xs h i

    pub each_name_zip : EachName r P w → EachName r Q w → EachName r R w
    each_name_zip h i = record {
      acts = each_act_zip (λ act. AllByRecursion P act.ids) (λ act. AllByRecursion Q act.ids) (λ act. AllByRecursion R act.ids)
          (λ act a b. all-zip P Q R f act.ids a b) h.acts i.acts;
      due = λ k b. zip_ids due_ids (w.places k).due (h.due k b) (i.due k b);
      objects = λ k b. zip_ids (λ (x : Standing). x.state.ids) (w.places k).objects (h.objects k b) (i.objects k b);
      travels = λ k b. zip_ids (λ (x : Travel). x.state.ids) (w.places k).travels (h.travels k b) (i.travels k b);
      road = all-zip (λ (x : Frame). AllByRecursion (λ y. AllByRecursion P y.state.ids) (travels_in (r.parcel_of x.1)))
          (λ x. AllByRecursion (λ y. AllByRecursion Q y.state.ids) (travels_in (r.parcel_of x.1)))
          (λ x. AllByRecursion (λ y. AllByRecursion R y.state.ids) (travels_in (r.parcel_of x.1)))
          (λ x a b. zip_ids (λ (y : Travel). y.state.ids) (travels_in (r.parcel_of x.1)) a b) w.road h.road i.road;
    }
