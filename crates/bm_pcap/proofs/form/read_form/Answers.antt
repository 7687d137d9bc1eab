use Rattle.std.proofs.Common.{◌∙◌, sym}
use Rattle.bm_pcap.proofs.Forms.{no_magic_number, no_magic, no_rest, form_read}
use Rattle.bm_pcap.proofs.form.read_form.Goals as goal

pub returns-then-branch-lt4-clause-form : goal.returns-then-branch-lt4-clause-form
returns-then-branch-lt4-clause-form g c =
    no_magic_number _ _ _ _ c.fill.auto.buf c.in_ok-fill.ensures.octets c.if-branch-lt4.true

pub returns-in_default-clause-form : goal.returns-in_default-clause-form
returns-in_default-clause-form g c =
    no_magic _ _ _ _ c.fill.auto.buf c.in_ok-fill.ensures.octets c.if-branch-lt4.false
    (sym c.magic.ensures ∙ c.in_default.is)

pub returns-then-branch-lt20-clause-form : goal.returns-then-branch-lt20-clause-form
returns-then-branch-lt20-clause-form g c =
    no_rest _ _ _ _ _ _ _ c.fill.auto.buf c.in_ok-fill.ensures.octets c.if-branch-lt4.false c.fill-2.auto.buf
    c.in_ok-fill-2.ensures.octets c.if-branch-lt20.true

pub returns-clause-form : goal.returns-clause-form
returns-clause-form g c =
    form_read _ _ _ _ _ c.fill.new.buf c.fill-2.new.buf _ c.in-Some.order c.in-Some.unit c.form_after_magic.result
    c.fill.auto.buf c.in_ok-fill.ensures.octets c.if-branch-lt4.false c.fill-2.auto.buf
    c.in_ok-fill-2.ensures.octets c.if-branch-lt20.false (sym c.magic.ensures ∙ c.in-Some.is) c.join.ensures
    c.form_after_magic.ensures.form
