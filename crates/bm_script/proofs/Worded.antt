-- What the commands of a script say that they change, beside the changes of its plan.
use Rattle.std.proofs.Common.{◌≡◌, ℕ, Bool, true, false, cond, List, [], ◌∷◌, ◌++◌, Option, Some, None, Ok, Err}
use Rattle.std.proofs.Common.{◌+◌, ◌<◌, ◌≤◌, length, get_or, drop, refl, ap, sym, ◌∙◌, subst, append_assoc}
use Rattle.std.proofs.lemmas.List.{append-nil, drop_all}
use Rattle.std.specs.Prelude.{ok_or, option_to_list, unwrap_or}
use Rattle.toml.proofs.Views.{items_view-drop}
use Rattle.toml.specs.declared.value.Value.{Value}
use Rattle.toml.specs.View.{items_view, view}
use Rattle.toml.specs.Data.{as_table, Data, Items, no_items, item, Members}
use Rattle.bm_controller.specs.Commands as controller
use Rattle.bm_controller.specs.Commands.Command.{AddServer, DrainServer, MoveBucket, WeighServer}
use Rattle.bm_controller.specs.declared.refusal.RackRefusal.{RackRefusal}
use Rattle.bm_script.proofs.Placed.{ok-same, ok-then, valued-ok}
use Rattle.bm_script.specs.declared.commands.Verb.{Verb}
use Rattle.bm_script.specs.declared.commands.Verb.TheVariants.{Add, Drain, Move, Close, Retire, Sync, Weigh}
use Rattle.bm_script.specs.declared.fault.Place.{Place}
use Rattle.bm_script.specs.declared.fault.Place.TheVariants as at_
use Rattle.bm_script.specs.declared.fault.ScriptFault.{ScriptFault}
use Rattle.bm_script.specs.declared.fault.ScriptFault.TheVariants.{NotToml, Missing}
use Rattle.bm_script.specs.declared.key.Key.{Key}
use Rattle.bm_script.specs.declared.key.Key.TheVariants as key
use Rattle.bm_script.specs.declared.verbs.ChangeVerb.{ChangeVerb}
use Rattle.bm_script.specs.declared.verbs.ChangeVerb.TheVariants as says
use Rattle.bm_script.specs.Commands.{added_weight, after_command, after_commands, carried, changed, next, rows_from}
use Rattle.bm_script.specs.Commands.{with_command, Progress}
use Rattle.bm_script.specs.Faults.{◌>>=◌, of_optional, only_keys, optional, required, valued}
use Rattle.bm_script.specs.Keys.{top_keys, value_at, verb_keys}
use Rattle.bm_script.specs.Scripts.{commands_of, of_tree, opened, opening_of, script_in, tree_of, version_of}
use Rattle.bm_script.specs.Values as values
use Rattle.bm_script.specs.Verbs.{change_verb, commands_in, found, said, tree_verbs, verbs_in, verbs_of, worded_script_of}
use Rattle.bm_script.specs.Verbs.{AreDoneBy, IsDoneBy}
use Rattle.bm_table.specs.declared.plan.Change.{Change}
use Rattle.bm_table.specs.declared.script.Command.{Command}
use Rattle.bm_table.specs.declared.script.Script.{Script}
use Rattle.bm_table.specs.Planned.{Planned}
use Rattle.bm_table.specs.Settings.{rack_of}

AreDoneBy-append : (vs ws : List ChangeVerb) (cs ds : List Change) → AreDoneBy vs cs → AreDoneBy ws ds
    → AreDoneBy (vs ++ ws) (cs ++ ds)
AreDoneBy-append [] ws [] ds a b = b
AreDoneBy-append [] ws (c ∷ cs) ds a b = absurd a
AreDoneBy-append (v ∷ vs) ws [] ds a b = absurd a
AreDoneBy-append (v ∷ vs) ws (c ∷ cs) ds a b = (a.0, AreDoneBy-append vs ws cs ds a.1 b)

-- WHAT WAS READ

module _ {A : Type 0} where
  -- what was required of a table is found in it
  required-found : (place : Place) (key : Key) (read : Data → Option A) (inside : Members) (x : A)
      → required place key read inside ≡ Ok x → found key read inside ≡ Some x
  required-found place key read inside x e = here (value_at key inside) e where
    here : (o : Option Data) → (ok_or o (Missing place key) >>= λ d. valued place key (read d)) ≡ Ok x
        → values.◌>>=◌ o read ≡ Some x
    here None e = absurd cc
    here (Some d) e = valued-ok place key (read d) x e

-- the command tables that were read are those of the document
tables-read : (inside : Members) (items : Items)
    → optional key.Command no_items (values.tables 65536) inside ≡ Ok items → commands_in inside ≡ items
tables-read inside items e = here (value_at key.Command inside) e where
  here : (o : Option Data) → of_optional key.Command no_items (values.tables 65536) o ≡ Ok items
      → unwrap_or (values.◌>>=◌ o (values.tables 65536)) no_items ≡ items
  here None e = ok-same no_items items e
  here (Some d) e = rw (valued-ok at_.Top key.Command (values.tables 65536 d) items e) refl

-- A COMMAND

-- the changes that a command added, which are what it says
record Adds (p q : Progress) (words : Option ChangeVerb) : Type 0 where
  more : List Change
  version : p.version ≡ q.version
  changes : q.controller.plan.changes ≡ p.controller.plan.changes ++ more
  done : AreDoneBy (option_to_list words) more

changed-adds : (p q : Progress) (at : ℕ) (command : controller.Command) (answer : Option RackRefusal) (v : ChangeVerb)
    → IsDoneBy v (controller.change_of p.controller (record { 0 = at }) command)
    → changed p at command answer ≡ Ok q → Adds p q (Some v)
changed-adds p q at command (Some r) v done e = absurd cc
changed-adds p q at command None v done e =
    let made : Adds p _ (Some v) = record {
      more = controller.change_of p.controller (record { 0 = at }) command ∷ [];
      version = refl;
      changes = refl;
      done = (done, tt);
    } in
    subst (λ (r : Progress). Adds p r (Some v)) (ok-same _ q e) made

none-added : (p : Progress) (at : ℕ) (command : Command) → Adds p (with_command p at command) None
none-added p at command = record {
  more = [];
  version = refl;
  changes = sym (append-nil p.controller.plan.changes);
  done = tt;
}

known-adds : (p q : Progress) (at : ℕ) (command : Command) (fault : ScriptFault) (known : Bool)
    → cond known (Ok (with_command p at command)) (Err fault) ≡ Ok q → Adds p q None
known-adds p q at command fault false e = absurd cc
known-adds p q at command fault true e =
    subst (λ (r : Progress). Adds p r None) (ok-same _ q e) (none-added p at command)

module _ (p q : Progress) where
  carried-adds : (at : ℕ) (v : Verb) (inside : Members) → carried p at v inside ≡ Ok q → Adds p q (said v inside)
  carried-adds at Add inside e =
      let (s, is_s, more) = ok-then (required (at_.Command (next p)) key.Server values.server inside) _ q e in
      let (weight, is_weight, made) = ok-then (added_weight p.version (at_.Command (next p)) inside) _ q more in
      rw (required-found _ key.Server values.server inside s is_s)
      (changed-adds p q at (AddServer s weight (rack_of p.controller.racks s)) _ (says.Add s) refl made)
  carried-adds at Drain inside e =
      let (s, is_s, made) = ok-then (required (at_.Command (next p)) key.Server values.server inside) _ q e in
      rw (required-found _ key.Server values.server inside s is_s)
      (changed-adds p q at (DrainServer s) _ (says.Drain s) refl made)
  carried-adds at Weigh inside e =
      let (s, is_s, more) = ok-then (required (at_.Command (next p)) key.Server values.server inside) _ q e in
      let (weight, is_weight, made) = ok-then (required (at_.Command (next p)) key.Weight values.weight inside) _ q more in
      rw (
        required-found _ key.Server values.server inside s is_s,
        required-found _ key.Weight values.weight inside weight is_weight,
      )
      (changed-adds p q at (WeighServer s weight) _ (says.Weight s weight) refl made)
  carried-adds at Move inside e =
      let (bucket, is_bucket, more) =
      ok-then (required (at_.Command (next p)) key.Bucket (values.number 0 65535) inside) _ q e in
      let (s, is_s, made) = ok-then (required (at_.Command (next p)) key.Server values.server inside) _ q more in
      rw (
        required-found _ key.Bucket (values.number 0 65535) inside bucket is_bucket,
        required-found _ key.Server values.server inside s is_s,
      )
      (changed-adds p q at (MoveBucket bucket s) _ (says.Move bucket s) (refl, refl) made)
  carried-adds at Close inside e =
      let (s, is_s, more) = ok-then (required (at_.Command (next p)) key.Server values.server inside) _ q e in
      let (from, is_from, further) =
      ok-then (required (at_.Command (next p)) key.From values.endpoint_value inside) _ q more in
      let (to, is_to, made) =
      ok-then (required (at_.Command (next p)) key.To values.endpoint_value inside) _ q further in
      known-adds p q at _ _ _ made
  carried-adds at Retire inside e =
      let (s, is_s, made) = ok-then (required (at_.Command (next p)) key.Server values.server inside) _ q e in
      known-adds p q at _ _ _ made
  carried-adds at Sync inside e =
      subst (λ (r : Progress). Adds p r None) (ok-same _ q e) (none-added p at _)

  command-adds : (inside : Members) → after_command p inside ≡ Ok q → Adds p q (change_verb p.version inside)
  command-adds inside e =
      let (at, is_at, rest) =
      ok-then (required (at_.Command (next p)) key.At (values.number p.last 4000000000000000000) inside) _ q e in
      let (v, is_v, more) =
      ok-then (required (at_.Command (next p)) key.Do (values.verb p.version) inside) _ q rest in
      let (only, is_only, made) = ok-then (only_keys (at_.Command (next p)) p.version (verb_keys v) inside) _ q more in
      rw (required-found _ key.Do (values.verb p.version) inside v is_v) (carried-adds at v inside made)

-- THE COMMANDS

record AddsAll (p r : Progress) (verbs : List ChangeVerb) : Type 0 where
  more : List Change
  changes : r.controller.plan.changes ≡ p.controller.plan.changes ++ more
  done : AreDoneBy verbs more

commands-adds : (p r : Progress) (items : Items) → after_commands p items ≡ Ok r
    → AddsAll p r (verbs_in p.version items)
commands-adds p r no_items e = record {
  more = [];
  changes = ap (λ (x : Progress). x.controller.plan.changes) (sym (ok-same p r e))
      ∙ sym (append-nil p.controller.plan.changes);
  done = tt;
}
commands-adds p r (item d items) e =
    let (inside, is_table, more) = ok-then (valued at_.Top key.Command (as_table d)) _ r e in
    let (q, is_q, rest) = ok-then (after_command p inside) _ r more in
    let here = command-adds p q inside is_q in
    let later = commands-adds q r items rest in
    record {
      more = here.more ++ later.more;
      changes = later.changes ∙ ap (λ (cs : List Change). cs ++ later.more) here.changes
          ∙ append_assoc p.controller.plan.changes here.more later.more;
      done = subst
          (λ (o : Option Members).
          AreDoneBy (option_to_list (values.◌>>=◌ o (change_verb p.version)) ++ verbs_in p.version items)
          (here.more ++ later.more))
          (sym (valued-ok at_.Top key.Command (as_table d) inside is_table))
          (AreDoneBy-append (option_to_list (change_verb p.version inside)) (verbs_in p.version items) here.more
          later.more here.done
          (subst (λ (n : ℕ). AreDoneBy (verbs_in n items) later.more) (sym here.version) later.done));
    }

-- A LIST OF TABLES, ONE AFTER THE OTHER

pub verbs-more : (version : ℕ) (vs : List Value) (i : ℕ) (d : Value) (front more total : List ChangeVerb)
    (words : Option ChangeVerb) → i < length vs
    → words ≡ values.◌>>=◌ (as_table (view (get_or vs i d))) (change_verb version)
    → more ≡ front ++ option_to_list words → front ++ verbs_in version (items_view (drop i vs)) ≡ total
    → more ++ verbs_in version (items_view (drop (i + 1) vs)) ≡ total
verbs-more version vs i d front more total words lt is now so_far =
    rw (now, is)
    (append_assoc front _ _ ∙ ap (λ (items : Items). front ++ verbs_in version items) (sym (items_view-drop vs i d lt))
    ∙ so_far)

pub verbs-end : (version : ℕ) (vs : List Value) (i : ℕ) (front total : List ChangeVerb) → length vs ≤ i
    → front ++ verbs_in version (items_view (drop i vs)) ≡ total → front ≡ total
verbs-end version vs i front total le so_far =
    sym (append-nil front)
    ∙ ap (λ (rest : List Value). front ++ verbs_in version (items_view rest)) (sym (drop_all i vs le)) ∙ so_far

-- A SCRIPT

tree-done : (script : Script) (inside : Members) → script_in inside ≡ Ok script
    → AreDoneBy (verbs_in (version_of inside) (commands_in inside)) script.plan.changes
tree-done script inside e =
    let (only, is_only, rest) = ok-then (only_keys at_.Top (version_of inside) top_keys inside) _ script e in
    let (opening, is_opening, rest_2) = ok-then (opening_of inside) _ script rest in
    let (fault_tables, are_faults, rest_3) =
    ok-then (optional key.Fault no_items (values.tables 4096) inside) _ script rest_2 in
    let (command_tables, are_commands, rest_4) =
    ok-then (optional key.Command no_items (values.tables 65536) inside) _ script rest_3 in
    let (rows, are_rows, rest_5) = ok-then (rows_from 1 fault_tables) _ script rest_4 in
    let (read, is_read, last) = ok-then (commands_of (version_of inside) opening command_tables) _ script rest_5 in
    let (p, is_p, parts) =
    ok-then (after_commands (opened (version_of inside) opening) command_tables) _ read is_read in
    let added = commands-adds (opened (version_of inside) opening) p command_tables is_p in
    let plan : p.controller.plan ≡ script.plan =
    ap (λ (x : Planned × List Command). x.0) (ok-same _ read parts)
    ∙ ap (λ (x : Script). x.plan) (ok-same _ script last) in
    let changes : added.more ≡ script.plan.changes =
    sym added.changes ∙ ap (λ (x : Planned). x.changes) plan in
    rw (tables-read inside command_tables are_commands)
    (subst (λ (cs : List Change). AreDoneBy (verbs_in (version_of inside) command_tables) cs) changes added.done)

module _ (text : List ℕ) (inside : Members) (tree : tree_of text ≡ Some inside) where
  verbs-of_text : verbs_of text ≡ verbs_in (version_of inside) (commands_in inside)
  verbs-of_text = ap tree_verbs tree

  module _ (script : Script) (verbs : List ChangeVerb) (is : script_in inside ≡ Ok script)
      (are : verbs ≡ verbs_in (version_of inside) (commands_in inside)) where
    pub worded-ok : worded_script_of text ≡ Ok (record { script = script; verbs = verbs })
    worded-ok = rw (ap of_tree tree ∙ is, verbs-of_text, are) refl

    pub worded-done : AreDoneBy verbs script.plan.changes
    worded-done = rw are (tree-done script inside is)

  pub worded-err : (fault : ScriptFault) → script_in inside ≡ Err fault → worded_script_of text ≡ Err fault
  worded-err fault is = rw (ap of_tree tree ∙ is) refl

pub worded-none : (text : List ℕ) → tree_of text ≡ None → worded_script_of text ≡ Err NotToml
worded-none text none = rw (ap of_tree none) refl
