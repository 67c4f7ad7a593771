-- What an intake's fields mean.
use Rattle.std.specs.Prelude.{◌≡◌, ℕ, ◌≤◌, false, List, ◌++◌, length, drop, vec_capacity}
use Rattle.fare_frame.specs.Grammar.{IsRest}
use Rattle.fare_frame.specs.Reading.{ReaderValue, Spells, HasNoFrame}
use Rattle.fare_frame.specs.declared.frame.Frame.{Frame}
use Rattle.fare_net.specs.Histories.{bytes_of, frames_in}
use Rattle.fare_net.specs.IntakeValue.{IntakeValue}
use Rattle.fare_net.specs.declared.intake.Intake.TheInside.{Inside}
use Rattle.fare_net.specs.declared.intake.Stage.{Stage}
use Rattle.fare_net.specs.declared.intake.Stage.TheVariants.{Live, Ended, Failed}

abbrev pub intake_of : Inside → IntakeValue
intake_of a = record {
  read = bytes_of a.reads.items;
  taken = frames_in a.taken.items;
  pending = drop a.place a.frames.items;
  stage = a.stage;
}

-- the bytes are the spellings of the frames, and then what the decoder holds back; at the end, less than a frame; after
-- a failure, no frame
abbrev pub Stands : Stage → List ℕ → List Frame → ReaderValue → Type 0
Stands Live read frames decoder = Spells read frames decoder.held × IsRest decoder.held × (decoder.failed ≡ false)
Stands Ended read frames decoder = (rest : List ℕ) × Spells read frames rest × IsRest rest
Stands Failed read frames decoder = (rest : List ℕ) × Spells read frames rest × HasNoFrame rest

-- between two reads there is room for the frames of one
pub record IsIntake (a : Inside) : Type 0 where
  pub stands : Stands a.stage (intake_of a).read ((intake_of a).taken ++ (intake_of a).pending) a.decoder
  pub placed : a.place ≤ length a.frames.items
  pub room : 460 ≤ vec_capacity a.frames
  pub few : length a.frames.items ≤ 460
