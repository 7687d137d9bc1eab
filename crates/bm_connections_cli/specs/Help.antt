-- What the program says of itself (docs/FORMATS.md).
use Rattle.std.specs.Prelude.{ℕ, List, ◌++◌, codes}

abbrev pub usage_line : List ℕ
usage_line =
    codes "usage: beamer-connections CAPTURE SCRIPT [--csv | --json | --svg] [--clock] [--fail] | CAPTURE SCRIPT --of CLIENT [SERVICE] [--clock] [--fail] | --lifetime SCRIPT [--for SECONDS] | --help | --version\n"

-- what each option does
unfoldable pub options_text : List ℕ
options_text =
    codes "  --csv, --json, --svg  the connections as fields, as objects, or drawn\n"
    ++ codes "  --clock               moments in UTC\n"
    ++ codes "  --fail                status 10 where the changes break or refuse a connection\n"
    ++ codes "  --of CLIENT           the events of the client's connections, in order\n"
    ++ codes "  --lifetime            how long connections may live so that no change breaks them\n"
    ++ codes "docs/FORMATS.md has the lines, docs/OPERATING.md what to do about them.\n"

abbrev pub help_text : List ℕ
help_text = usage_line ++ options_text

abbrev pub version_line : List ℕ
version_line = codes "beamer-connections 1.0\n"
