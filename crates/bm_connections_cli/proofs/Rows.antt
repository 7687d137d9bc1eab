-- Records that are written one after another.
use Rattle.std.proofs.Common.{◌≡◌, ◌≢◌, ℕ, ◌++◌, List, Option, Some, None, false, sym, ap, ◌∙◌, subst}
use Rattle.std.specs.Io.KnownBytes.{Appends}
use Rattle.csv.specs.Writing.{row_text, default_writer, fields_written, has_written, text_written, writer_setup}
use Rattle.csv.specs.declared.writer.Writer.{Writer}
use Rattle.csv.specs.declared.writer.WriterBuilder.{WriterBuilder}
use Rattle.csv.specs.declared.writer.QuoteStyle.TheVariants as style
use Rattle.bm_connections_cli.specs.Inside.Rows.{HasWritten}

pub same_octets : (x y : List ℕ) → Some x ≡ Some y → x ≡ y
same_octets x y e = cc

-- octets that are known grow by a text
known_more : (before now : Option (List ℕ)) (octets text : List ℕ) → before ≡ Some octets →
    Appends before now text → now ≡ Some (octets ++ text)
known_more None now octets text is more = absurd (cc)
known_more (Some x) None octets text is more = absurd more
known_more (Some x) (Some y) octets text is more =
    ap Some (more ∙ ap (λ l. l ++ text) (same_octets x octets is))

-- a record more was written
pub record_more : {W : Type 0} (contents : W → Option (List ℕ)) (old new : Writer W) (octets : List ℕ)
    (fields : List (List ℕ)) → HasWritten contents old octets →
    (fields_written old ≡ 0 → has_written old ≡ false → (writer_setup old).style ≢ style.NonNumeric →
    Appends (text_written contents old) (text_written contents new) (row_text (writer_setup old) fields)) →
    fields_written new ≡ 0 → has_written new ≡ false → writer_setup new ≡ writer_setup old →
    HasWritten contents new (octets ++ row_text default_writer fields)
record_more contents old new octets fields is more none blank setup =
    let plain : (writer_setup old).style ≢ style.NonNumeric =
    subst (λ (s : WriterBuilder). s.style ≢ style.NonNumeric) (sym is.setup) (λ e. cc e) in
    record {
      setup = setup ∙ is.setup;
      fields = none;
      blank = blank;
      text =
          known_more (text_written contents old) (text_written contents new) octets (row_text default_writer fields)
          is.text
          (subst (λ (s : WriterBuilder). Appends (text_written contents old) (text_written contents new)
          (row_text s fields)) is.setup (more is.fields is.blank plain));
    }
