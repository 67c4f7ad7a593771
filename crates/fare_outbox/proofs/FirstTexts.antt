-- What the texts of an outbox of the first format mean in a database of such an outbox alone.
use Rattle.std.proofs.Common.{refl}
use Rattle.sqlite_tied.specs.Compute.{everything}
use Rattle.fare_opening.specs.Numbers.{Meta, Tap}
use Rattle.fare_layout.specs.Commands.{IsMeant}
use Rattle.fare_layout.specs.Layouts.{AreUnderstood}
use Rattle.fare_layout.specs.Places.{place_of}
use Rattle.fare_outbox_rows.specs.Statements.{first_texts}
use Rattle.fare_outbox_rows.specs.Tables.{first_schema}
use Rattle.fare_outbox_rows.proofs.Texts.{own_places, meta_asked_text, meta_at, meta_simple, put_meta_text, put_meta_at, put_meta_simple, set_meta_text, set_meta_at, set_meta_simple, first_text, first_at, first_simple}

pub meta_first : IsMeant first_schema meta_asked_text (meta_at (place_of own_places Meta))
unfolding everything first_schema
meta_first = refl

pub put_meta_first : IsMeant first_schema put_meta_text (put_meta_at (place_of own_places Meta))
unfolding everything first_schema
put_meta_first = refl

pub set_meta_first : IsMeant first_schema set_meta_text (set_meta_at (place_of own_places Meta))
unfolding everything first_schema
set_meta_first = refl

pub read_first : IsMeant first_schema first_text (first_at (place_of own_places Tap))
unfolding everything first_schema
read_first = refl

unfoldable pub understood_first : AreUnderstood first_schema first_texts
understood_first = ((meta_at (place_of own_places Meta), meta_first, meta_simple), ((put_meta_at (place_of own_places Meta), put_meta_first, put_meta_simple), ((set_meta_at (place_of own_places Meta), set_meta_first, set_meta_simple), ((first_at (place_of own_places Tap), read_first, first_simple), tt))))
