-- The faults of a script: their texts, and reading that stops at the first one.
use Rattle.std.specs.Prelude.{◌≡◌, ◌≢◌, ℕ, List, ◌++◌, Option, Some, None, Result, Ok, Err, ok_or}
use Rattle.std.specs.Prelude.{codes, decimal}
use Rattle.bm_controller.specs.declared.refusal.RackRefusal.{RackRefusal}
use Rattle.bm_controller.specs.declared.refusal.RackRefusal.TheVariants.{Base, LastInRack, WrongRack}
use Rattle.bm_quota.specs.declared.refusal.Refusal.{Refusal}
use Rattle.bm_quota.specs.declared.refusal.Refusal.TheVariants.{KnownServer, UnknownServer}
use Rattle.bm_quota.specs.declared.refusal.Refusal.TheVariants.{NotActive, LastServer, BadBucket}
use Rattle.bm_quota.specs.declared.refusal.Refusal.TheVariants.{SameServer, StampFell, TooMany}
use Rattle.bm_quota.specs.declared.refusal.Refusal.TheVariants.{Memory as no_memory}
use Rattle.bm_script.specs.declared.fault.Place.{Place}
use Rattle.bm_script.specs.declared.fault.Place.TheVariants.{Top, Fault, Command}
use Rattle.bm_script.specs.declared.fault.ScriptFault.{ScriptFault}
use Rattle.bm_script.specs.declared.fault.ScriptFault.TheVariants.{NotToml, Missing, BadValue}
use Rattle.bm_script.specs.declared.fault.ScriptFault.TheVariants.{Unknown, Refused, Rack, Memory}
use Rattle.bm_script.specs.declared.key.Key.{Key}
use Rattle.bm_script.specs.Keys.{first_unknown, key_word, value_at}
use Rattle.bm_table.specs.declared.plan.Limit.TheVariants.{Changes, Moves}
use Rattle.toml.specs.Data.{Data, Members}

abbrev pub place_text : Place → List ℕ
place_text Top = codes "script: "
place_text (Fault n) = codes "script fault " ++ decimal n ++ codes ": "
place_text (Command n) = codes "script command " ++ decimal n ++ codes ": "

abbrev pub refusal_word : Refusal → List ℕ
refusal_word KnownServer = codes "known server"
refusal_word UnknownServer = codes "unknown server"
refusal_word NotActive = codes "not active"
refusal_word LastServer = codes "last server"
refusal_word BadBucket = codes "bad bucket"
refusal_word SameServer = codes "same server"
refusal_word StampFell = codes "stamp fell"
refusal_word (TooMany Changes) = codes "too many changes"
refusal_word (TooMany Moves) = codes "too many moves"
refusal_word no_memory = codes "want of memory"

abbrev pub rack_word : RackRefusal → List ℕ
rack_word (Base refusal) = refusal_word refusal
rack_word LastInRack = codes "last in rack"
rack_word WrongRack = codes "wrong rack"

-- the text of a fault: its place, and what it is
abbrev pub fault_text : ScriptFault → List ℕ
fault_text NotToml = codes "script: not toml"
fault_text (Missing place key) = place_text place ++ codes "missing " ++ key_word key
fault_text (BadValue place key) = place_text place ++ codes "bad value of " ++ key_word key
fault_text (Unknown place name) = place_text place ++ codes "unknown key " ++ name
fault_text (Refused n refusal) = place_text (Command n) ++ refusal_word refusal
fault_text (Rack n refusal) = place_text (Command n) ++ rack_word refusal
fault_text Memory = codes "script: want of memory"

-- what a controller's refusal of the command of this number is
abbrev pub refused_as : ℕ → RackRefusal → ScriptFault
refused_as n (Base refusal) = Refused n refusal
refused_as n LastInRack = Rack n LastInRack
refused_as n WrongRack = Rack n WrongRack

-- a fault that reading a script may give
abbrev pub IsOfScript : ScriptFault → Type 0
IsOfScript (Refused n StampFell) = ⊥
IsOfScript (Refused n no_memory) = ⊥
IsOfScript (Rack n (Base refusal)) = ⊥
IsOfScript _ = Unit {0}

-- the result is what the definition gives, unless memory was refused
abbrev pub Gives : {A : Type 0} → Result A ScriptFault → Result A ScriptFault → Type 0
Gives (Ok x) wanted = wanted ≡ Ok x
Gives (Err fault) wanted = fault ≢ Memory → wanted ≡ Err fault

-- goes on with a value; a fault ends it
infixl 10 ◌>>=◌
abbrev pub ◌>>=◌ : {A B : Type 0} → Result A ScriptFault → (A → Result B ScriptFault)
    → Result B ScriptFault
Ok x >>= f = f x
Err fault >>= f = Err fault

-- what a value reads as, or a bad value
abbrev pub valued : {A : Type 0} → Place → Key → Option A → Result A ScriptFault
valued place key x = ok_or x (BadValue place key)

-- the value of a required key
abbrev pub required : {A : Type 0} → Place → Key → (Data → Option A) → Members
    → Result A ScriptFault
required place key read members = do
  d ← ok_or (value_at key members) (Missing place key)
  valued place key (read d)

abbrev pub of_optional : {A : Type 0} → Key → A → (Data → Option A) → Option Data
    → Result A ScriptFault
of_optional key plain read None = Ok plain
of_optional key plain read (Some d) = valued Top key (read d)

-- the value of a key at the top, or `plain` if the key isn't there
abbrev pub optional : {A : Type 0} → Key → A → (Data → Option A) → Members → Result A ScriptFault
optional key plain read members = of_optional key plain read (value_at key members)

abbrev pub none_unknown : Place → Option (List ℕ) → Result (Unit {0}) ScriptFault
none_unknown place None = Ok tt
none_unknown place (Some name) = Err (Unknown place name)

-- a table of a script of this version has no other keys than these
abbrev pub only_keys : Place → ℕ → List Key → Members → Result (Unit {0}) ScriptFault
only_keys place version keys members = none_unknown place (first_unknown version keys members)
