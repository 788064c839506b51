mod FixtureIsSound
mod Adding
mod RoomsAreSound
mod ObjectsAreSound
