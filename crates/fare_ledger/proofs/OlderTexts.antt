-- What the texts of a ledger of an older format mean in a database of such a ledger alone.
use Rattle.std.proofs.Common.{refl}
use Rattle.sqlite_tied.specs.Compute.{everything}
use Rattle.fare_opening.specs.Numbers.{Meta, Tap}
use Rattle.fare_layout.specs.Commands.{IsMeant}
use Rattle.fare_layout.specs.Layouts.{AreUnderstood}
use Rattle.fare_layout.specs.Places.{place_of}
use Rattle.fare_ledger.specs.Statements.{older_texts, third_texts}
use Rattle.fare_ledger.specs.Tables.{first_schema, second_schema, third_schema}
use Rattle.fare_ledger.proofs.Texts.{own_places, meta_text, meta_at, meta_simple, put_meta_text, put_meta_at, put_meta_simple, set_meta_text, set_meta_at, set_meta_simple, older_text, older_at, older_simple, unused_text, unused_at, unused_simple}

pub meta_first : IsMeant first_schema meta_text (meta_at (place_of own_places Meta))
unfolding everything first_schema
meta_first = refl

pub put_meta_first : IsMeant first_schema put_meta_text (put_meta_at (place_of own_places Meta))
unfolding everything first_schema
put_meta_first = refl

pub set_meta_first : IsMeant first_schema set_meta_text (set_meta_at (place_of own_places Meta))
unfolding everything first_schema
set_meta_first = refl

pub older_first : IsMeant first_schema older_text (older_at (place_of own_places Tap))
unfolding everything first_schema
older_first = refl

unfoldable pub understood_first : AreUnderstood first_schema older_texts
understood_first = ((meta_at (place_of own_places Meta), meta_first, meta_simple), ((put_meta_at (place_of own_places Meta), put_meta_first, put_meta_simple), ((set_meta_at (place_of own_places Meta), set_meta_first, set_meta_simple), ((older_at (place_of own_places Tap), older_first, older_simple), tt))))

pub meta_second : IsMeant second_schema meta_text (meta_at (place_of own_places Meta))
unfolding everything second_schema
meta_second = refl

pub put_meta_second : IsMeant second_schema put_meta_text (put_meta_at (place_of own_places Meta))
unfolding everything second_schema
put_meta_second = refl

pub set_meta_second : IsMeant second_schema set_meta_text (set_meta_at (place_of own_places Meta))
unfolding everything second_schema
set_meta_second = refl

pub older_second : IsMeant second_schema older_text (older_at (place_of own_places Tap))
unfolding everything second_schema
older_second = refl

unfoldable pub understood_second : AreUnderstood second_schema older_texts
understood_second = ((meta_at (place_of own_places Meta), meta_second, meta_simple), ((put_meta_at (place_of own_places Meta), put_meta_second, put_meta_simple), ((set_meta_at (place_of own_places Meta), set_meta_second, set_meta_simple), ((older_at (place_of own_places Tap), older_second, older_simple), tt))))

pub meta_third : IsMeant third_schema meta_text (meta_at (place_of own_places Meta))
unfolding everything third_schema
meta_third = refl

pub put_meta_third : IsMeant third_schema put_meta_text (put_meta_at (place_of own_places Meta))
unfolding everything third_schema
put_meta_third = refl

pub set_meta_third : IsMeant third_schema set_meta_text (set_meta_at (place_of own_places Meta))
unfolding everything third_schema
set_meta_third = refl

pub unused_third : IsMeant third_schema unused_text (unused_at (place_of own_places Tap))
unfolding everything third_schema
unused_third = refl

unfoldable pub understood_third : AreUnderstood third_schema third_texts
understood_third = ((meta_at (place_of own_places Meta), meta_third, meta_simple), ((put_meta_at (place_of own_places Meta), put_meta_third, put_meta_simple), ((set_meta_at (place_of own_places Meta), set_meta_third, set_meta_simple), ((unused_at (place_of own_places Tap), unused_third, unused_simple), tt))))
