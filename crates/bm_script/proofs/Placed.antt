-- Where the commands of a script leave its buckets.
use Rattle.std.proofs.Common.{◌≡◌, ℕ, Bool, true, false, nat_le, cond, List, Option, Some, None, Result, Ok, Err}
use Rattle.std.proofs.Common.{refl, ap, sym, ◌∙◌, subst, arith}
use Rattle.std.specs.Prelude.{option_map, IfOk, IsOkAnd, IsSomeAnd}
use Rattle.toml.specs.Data.{as_table, Data, Items, no_items, item, Members}
use Rattle.bm_base.specs.declared.ids.ServerId.{ServerId}
use Rattle.bm_controller.specs.Commands as controller
use Rattle.bm_controller.specs.Commands.Command.{AddServer, DrainServer, MoveBucket, WeighServer}
use Rattle.bm_controller.specs.Controlled.{Controlled}
use Rattle.bm_controller.specs.declared.refusal.RackRefusal.{RackRefusal}
use Rattle.bm_script.proofs.Carried.{add-placed, drain-placed, move-carried, opening-carried, weigh-placed, IsCarried}
use Rattle.bm_script.proofs.Sound.{meets-required, opening-sound, reads-number, Meets, Reads}
use Rattle.bm_script.specs.declared.commands.Verb.{Verb}
use Rattle.bm_script.specs.declared.commands.Verb.TheVariants.{Add, Drain, Move, Close, Retire, Sync, Weigh}
use Rattle.bm_script.specs.declared.fault.Place.{Place}
use Rattle.bm_script.specs.declared.fault.Place.TheVariants as at_
use Rattle.bm_script.specs.declared.fault.ScriptFault.{ScriptFault}
use Rattle.bm_script.specs.declared.key.Key.{Key}
use Rattle.bm_script.specs.declared.key.Key.TheVariants as key
use Rattle.bm_script.specs.Commands.{added_weight, after_command, after_commands, carried, changed, next, rows_from}
use Rattle.bm_script.specs.Commands.{with_command, Progress}
use Rattle.bm_script.specs.Faults.{◌>>=◌, only_keys, optional, required, valued}
use Rattle.bm_script.specs.Inside.Openings.{IsOpening}
use Rattle.bm_script.specs.Keys.{top_keys, verb_keys}
use Rattle.bm_script.specs.Placed.{verb_in, ArePlaced, IsPlacedText, Places}
use Rattle.bm_script.specs.Scripts.{commands_of, of_tree, opened, opening_of, script_in, script_of, tree_of, version_of}
use Rattle.bm_script.specs.Values as values
use Rattle.bm_table.specs.declared.script.Command.{Command}
use Rattle.bm_table.specs.declared.script.Script.{Script}
use Rattle.bm_table.specs.declared.setting.Setting.{Setting}
use Rattle.bm_table.specs.Planned.{Planned}
use Rattle.bm_table.specs.Settings.{rack_of, IsWithin}

-- WHAT WAS READ

module _ {A : Type 0} where
  -- what was read before a value that was read
  pub ok-then : {B : Type 0} (r : Result A ScriptFault) (f : A → Result B ScriptFault) (y : B) → (r >>= f) ≡ Ok y
      → (x : A) × (r ≡ Ok x) × (f x ≡ Ok y)
  ok-then (Ok x) f y e = (x, refl, e)
  ok-then (Err fault) f y e = absurd cc

  pub ok-same : (x y : A) → ◌≡◌ {A = Result A ScriptFault} (Ok x) (Ok y) → x ≡ y
  ok-same x y e = cc

  ok-and : (r : Result A ScriptFault) (x : A) (P : A → Type 0) → r ≡ Ok x → P x → IsOkAnd r P
  ok-and r x P e h = subst (λ (o : Result A ScriptFault). IsOkAnd o P) (sym e) h

  some-and : (o : Option A) (x : A) (P : A → Type 0) → o ≡ Some x → P x → IsSomeAnd o P
  some-and o x P e h = subst (λ (p : Option A). IsSomeAnd p P) (sym e) h

  if-ok : (r : Result A ScriptFault) (P : A → Type 0) → ((x : A) → r ≡ Ok x → P x) → IfOk r P
  if-ok (Ok x) P h = h x refl
  if-ok (Err fault) P h = tt

  pub valued-ok : (place : Place) (key : Key) (o : Option A) (x : A) → valued place key o ≡ Ok x → o ≡ Some x
  valued-ok place key None x e = absurd cc
  valued-ok place key (Some y) x e = ap (λ (z : A). Some z) (ok-same y x e)

  required-ok : (place : Place) (key : Key) (read : Data → Option A) (P : A → Type 0) (members : Members) (x : A)
      → Reads read P → required place key read members ≡ Ok x → P x
  required-ok place key read P members x reads e = subst (Meets P) e (meets-required place key read P members reads)

-- the number of a server
reads-server : Reads values.server (λ s. IsWithin 1 1024 s.0)
reads-server d s e = within (values.number 1 1024 d) refl e
  where
    within : (o : Option ℕ) → values.number 1 1024 d ≡ o
        → option_map (λ n. record { 0 = n }) o ≡ Some s → IsWithin 1 1024 s.0
    within None is h = absurd cc
    within (Some n) is h =
        let same : n ≡ s.0 = ap (λ (t : ServerId). t.0) (cc)
        in subst (IsWithin 1 1024) same (reads-number 1 1024 d n is)

added-within : (place : Place) (members : Members) (stated : Bool) (weight : ℕ)
    → cond stated (required place key.Weight values.weight members) (Ok 1) ≡ Ok weight → IsWithin 1 1000 weight
added-within place members true weight e =
    required-ok place key.Weight values.weight (IsWithin 1 1000) members weight (reads-number 1 1000) e
added-within place members false weight e = subst (IsWithin 1 1000) (ok-same 1 weight e) (omega arith, omega arith)

-- A COMMAND

changed-ok : (p q : Progress) (at : ℕ) (command : controller.Command) (answer : Option RackRefusal)
    → changed p at command answer ≡ Ok q
    → (answer ≡ None) × (controller.after p.controller (record { 0 = at }) command ≡ q.controller)
changed-ok p q at command (Some r) e = absurd cc
changed-ok p q at command None e = (refl, ap (λ (x : Progress). x.controller) (ok-same _ q e))

known-ok : (p q : Progress) (at : ℕ) (command : Command) (fault : ScriptFault) (known : Bool)
    → cond known (Ok (with_command p at command)) (Err fault) ≡ Ok q → p.controller ≡ q.controller
known-ok p q at command fault false e = absurd cc
known-ok p q at command fault true e = ap (λ (x : Progress). x.controller) (ok-same (with_command p at command) q e)

module _ (setting : Setting) (p q : Progress) (kept : IsCarried setting.racks p.controller) where
  abbrev Leaves : Verb → Controlled → Type 0
  Leaves v c = Places setting v p.controller c × IsCarried setting.racks c

  leaves : (v : Verb) (c : Controlled) → c ≡ q.controller → Leaves v c → Leaves v q.controller
  leaves v c is h = subst (Leaves v) is h

  carried-placed : (at : ℕ) (v : Verb) (members : Members) → carried p at v members ≡ Ok q → Leaves v q.controller
  carried-placed at Add members e =
      let (s, is_s, more) = ok-then (required (at_.Command (next p)) key.Server values.server members) _ q e in
      let (weight, is_weight, made) = ok-then (added_weight p.version (at_.Command (next p)) members) _ q more in
      let asked = changed-ok p q at (AddServer s weight (rack_of p.controller.racks s)) _ made in
      leaves Add _ asked.1
      (add-placed setting p.controller kept (record { 0 = at }) s weight (rack_of p.controller.racks s)
      (required-ok (at_.Command (next p)) key.Server values.server (λ s. IsWithin 1 1024 s.0) members s reads-server is_s)
      (added-within (at_.Command (next p)) members (nat_le 2 p.version) weight is_weight)
      (ap (λ racks. rack_of racks s) kept.count) asked.0)
  carried-placed at Drain members e =
      let (s, is_s, made) = ok-then (required (at_.Command (next p)) key.Server values.server members) _ q e in
      let asked = changed-ok p q at (DrainServer s) _ made in
      leaves Drain _ asked.1 (drain-placed setting p.controller kept (record { 0 = at }) s asked.0)
  carried-placed at Weigh members e =
      let (s, is_s, more) = ok-then (required (at_.Command (next p)) key.Server values.server members) _ q e in
      let (weight, is_weight, made) = ok-then (required (at_.Command (next p)) key.Weight values.weight members) _ q more in
      let asked = changed-ok p q at (WeighServer s weight) _ made in
      leaves Weigh _ asked.1
      (weigh-placed setting p.controller kept (record { 0 = at }) s weight
      (required-ok (at_.Command (next p)) key.Weight values.weight (IsWithin 1 1000) members weight
      (reads-number 1 1000) is_weight) asked.0)
  carried-placed at Move members e =
      let (bucket, is_bucket, more) =
      ok-then (required (at_.Command (next p)) key.Bucket (values.number 0 65535) members) _ q e in
      let (s, is_s, made) = ok-then (required (at_.Command (next p)) key.Server values.server members) _ q more in
      let asked = changed-ok p q at (MoveBucket bucket s) _ made in
      leaves Move _ asked.1 (tt, move-carried setting p.controller kept (record { 0 = at }) bucket s asked.0)
  carried-placed at Close members e =
      let (s, is_s, more) = ok-then (required (at_.Command (next p)) key.Server values.server members) _ q e in
      let (from, is_from, further) =
      ok-then (required (at_.Command (next p)) key.From values.endpoint_value members) _ q more in
      let (to, is_to, made) =
      ok-then (required (at_.Command (next p)) key.To values.endpoint_value members) _ q further in
      leaves Close p.controller (known-ok p q at _ _ _ made) (tt, kept)
  carried-placed at Retire members e =
      let (s, is_s, made) = ok-then (required (at_.Command (next p)) key.Server values.server members) _ q e in
      leaves Retire p.controller (known-ok p q at _ _ _ made) (tt, kept)
  carried-placed at Sync members e =
      leaves Sync p.controller (ap (λ (x : Progress). x.controller) (ok-same _ q e)) (tt, kept)

  command-placed : (members : Members) → after_command p members ≡ Ok q
      → IsOkAnd (verb_in p members) (λ v. Places setting v p.controller q.controller)
      × IsCarried setting.racks q.controller
  command-placed members e =
      let (at, is_at, rest) =
      ok-then (required (at_.Command (next p)) key.At (values.number p.last 4000000000000000000) members) _ q e in
      let (v, is_v, more) = ok-then (verb_in p members) _ q rest in
      let (only, is_only, made) = ok-then (only_keys (at_.Command (next p)) p.version (verb_keys v) members) _ q more in
      let left = carried-placed at v members made in
      (ok-and (verb_in p members) v (λ v. Places setting v p.controller q.controller) is_v left.0, left.1)

-- THE COMMANDS

commands-placed : (script : Script) (p r : Progress) (items : Items) → IsCarried script.setting.racks p.controller
    → r.controller.plan ≡ script.plan → after_commands p items ≡ Ok r → ArePlaced script p items
commands-placed script p r no_items kept plan e =
    ap (λ (x : Progress). x.controller.plan) (ok-same p r e) ∙ plan
commands-placed script p r (item d items) kept plan e =
    let (members, is_table, more) = ok-then (valued at_.Top key.Command (as_table d)) _ r e in
    let (q, is_q, rest) = ok-then (after_command p members) _ r more in
    let here = command-placed script.setting p q kept members is_q in
    some-and (as_table d) members _ (valued-ok at_.Top key.Command (as_table d) members is_table)
    (ok-and (after_command p members) q _ is_q (here.0, commands-placed script q r items here.1 plan rest))

-- A TEXT

abbrev IsPlacedTree : Script → Members → Type 0
IsPlacedTree script members =
    IsOkAnd (opening_of members) (λ opening.
    IsOkAnd (optional key.Command no_items (values.tables 65536) members)
    (ArePlaced script (opened (version_of members) opening)))

tree-placed : (script : Script) (members : Members) → script_in members ≡ Ok script → IsPlacedTree script members
tree-placed script members e =
    let (only, is_only, rest) = ok-then (only_keys at_.Top (version_of members) top_keys members) _ script e in
    let (opening, is_opening, rest_2) = ok-then (opening_of members) _ script rest in
    let (fault_tables, are_faults, rest_3) =
    ok-then (optional key.Fault no_items (values.tables 4096) members) _ script rest_2 in
    let (command_tables, are_commands, rest_4) =
    ok-then (optional key.Command no_items (values.tables 65536) members) _ script rest_3 in
    let (rows, are_rows, rest_5) = ok-then (rows_from 1 fault_tables) _ script rest_4 in
    let (read, is_read, last) = ok-then (commands_of (version_of members) opening command_tables) _ script rest_5 in
    let (p, is_p, parts) =
    ok-then (after_commands (opened (version_of members) opening) command_tables) _ read is_read in
    let same = ok-same _ script last in
    let racks : opening.setting.racks ≡ script.setting.racks = ap (λ (x : Script). x.setting.racks) same in
    let plan : p.controller.plan ≡ script.plan =
    ap (λ (x : Planned × List Command). x.0) (ok-same _ read parts) ∙ ap (λ (x : Script). x.plan) same in
    let sound : IsOpening opening = subst (Meets IsOpening) is_opening (opening-sound members) in
    let kept = opening-carried (version_of members) opening sound in
    ok-and (opening_of members) opening _ is_opening
    (ok-and (optional key.Command no_items (values.tables 65536) members) command_tables _ are_commands
    (commands-placed script (opened (version_of members) opening) p command_tables
    (subst (λ (n : ℕ). IsCarried n (opened (version_of members) opening).controller) racks kept) plan is_p))

of_tree-placed : (script : Script) (tree : Option Members) → of_tree tree ≡ Ok script
    → IsSomeAnd tree (IsPlacedTree script)
of_tree-placed script None e = absurd cc
of_tree-placed script (Some members) e = tree-placed script members e

pub text-placed : (text : List ℕ) → IfOk (script_of text) (IsPlacedText text)
text-placed text = if-ok (script_of text) (IsPlacedText text) (λ script e. of_tree-placed script (tree_of text) e)
