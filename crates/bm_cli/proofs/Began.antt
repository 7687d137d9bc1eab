-- When a capture that was read began.
use Rattle.std.proofs.Common.{◌≡◌, ◌∙◌, ℕ, List, true, false, Option, Some, None, Result, Ok, Err, IfOk}
use Rattle.std.proofs.Common.{sym, ap, subst, take}
use Rattle.std.specs.Io.KnownBytes.{Keeps}
use Rattle.bm_io.specs.Names.{HasOctetsOf}
use Rattle.bm_pcap.specs.Began.{began as classic_began}
use Rattle.bm_pcap.specs.Capture.{Captured}
use Rattle.bm_pcap.specs.declared.form.Form.{Form}
use Rattle.bm_pcap.specs.declared.form.Order.{Order}
use Rattle.bm_pcap.specs.Parts.{FormGives}
use Rattle.bm_pcap.specs.Reader.{StandsIn as ClassicStandsIn}
use Rattle.bm_pcapng.specs.Began.{began as pcapng_began}
use Rattle.bm_pcapng.specs.Front.{IsMagic}
use Rattle.bm_pcapng.specs.Reader.{IsOpened, StandsIn as PcapngStandsIn}
use Rattle.bm_cli.specs.Captures.{began, is_pcapng}
use Rattle.bm_cli.specs.Inside.Captures.{BeganIn, FileBegan}

-- what is true of any capture that was read
pub ok_more : {A E : Type 0} (r : Result A E) (fact more : Type 0) → (fact → more) → IfOk r (λ read. fact) →
    IfOk r (λ read. more)
ok_more (Ok read) fact more by h = by h
ok_more (Err e) fact more by h = tt

-- BY ITS FORM

pub classic_began_in : (r : Captured) (left new : Option (List ℕ)) (form : Form) (time : ℕ) →
    FormGives left new (Ok form) →
    IfOk r (λ read. (octets : List ℕ) → ClassicStandsIn new form octets → time ≡ classic_began octets) →
    IfOk r (λ read. BeganIn classic_began left time)
classic_began_in (Err e) left new form time gives h = tt
classic_began_in (Ok read) None new form time gives h = tt
classic_began_in (Ok read) (Some octets) new form time gives h = h octets gives

pub pcapng_began_in : (r : Captured) (left to_come : Option (List ℕ)) (order : Order) (time : ℕ) →
    IsOpened left order → Keeps left to_come →
    IfOk r (λ read. (octets : List ℕ) → PcapngStandsIn to_come order octets → time ≡ pcapng_began octets) →
    IfOk r (λ read. BeganIn pcapng_began left time)
pcapng_began_in (Err e) left to_come order time opened keeps h = tt
pcapng_began_in (Ok read) None to_come order time opened keeps h = tt
pcapng_began_in (Ok read) (Some octets) None order time opened keeps h = absurd keeps
pcapng_began_in (Ok read) (Some octets) (Some here) order time opened keeps h = h octets (opened.0, ap Some keeps)

-- OF EITHER FORM

pub pcapng_front_began : (r : Captured) (left : Option (List ℕ)) (magic first : List ℕ) (time : ℕ) →
    magic ≡ first → is_pcapng magic ≡ true → IfOk r (λ read. BeganIn pcapng_began left time) →
    IfOk r (λ read. (octets : List ℕ) → left ≡ Some octets → first ≡ take 4 octets → time ≡ began octets)
unfolding began
pcapng_front_began (Err e) left magic first time same is h = tt
pcapng_front_began (Ok read) left magic first time same is h = λ octets told at.
    let begins : is_pcapng (take 4 octets) ≡ true = sym (ap is_pcapng (same ∙ at)) ∙ is in
    rw begins (subst (λ l. BeganIn pcapng_began l time) told h)

pub classic_front_began : (r : Captured) (left : Option (List ℕ)) (magic first : List ℕ) (time : ℕ) →
    magic ≡ first → is_pcapng magic ≡ false → IfOk r (λ read. BeganIn classic_began left time) →
    IfOk r (λ read. (octets : List ℕ) → left ≡ Some octets → first ≡ take 4 octets → time ≡ began octets)
unfolding began
classic_front_began (Err e) left magic first time same is h = tt
classic_front_began (Ok read) left magic first time same is h = λ octets told at.
    let begins : is_pcapng (take 4 octets) ≡ false = sym (ap is_pcapng (same ∙ at)) ∙ is in
    rw begins (subst (λ l. BeganIn classic_began l time) told h)

pub source_began : (r : Captured) (left behind : Option (List ℕ)) (magic : List ℕ) (time : ℕ) → Keeps left behind →
    IsMagic left magic →
    IfOk r (λ read. (octets : List ℕ) → behind ≡ Some octets → magic ≡ take 4 octets → time ≡ began octets) →
    IfOk r (λ read. BeganIn began left time)
source_began (Err e) left behind magic time keeps is h = tt
source_began (Ok read) None behind magic time keeps is h = tt
source_began (Ok read) (Some octets) None magic time keeps is h = absurd keeps
source_began (Ok read) (Some octets) (Some here) magic time keeps is h = h octets (ap Some keeps) is

pub file_began : (r : Captured) (told : Option (List ℕ → List ℕ)) (name : List ℕ) (left : Option (List ℕ)) (time : ℕ) →
    HasOctetsOf told name left → IfOk r (λ read. BeganIn began left time) → IfOk r (λ read. FileBegan told name time)
file_began (Err e) told name left time has h = tt
file_began (Ok read) None name left time has h = tt
file_began (Ok read) (Some octets) name left time has h = subst (λ l. BeganIn began l time) has h

pub ok_any : {A E : Type 0} (r : Result A E) (fact : Type 0) → fact → IfOk r (λ read. fact)
ok_any (Ok read) fact h = h
ok_any (Err e) fact h = tt
