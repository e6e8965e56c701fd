-- What a joined payload leaves in the room, and its laws.
pub mod SarRoom
pub mod RoomLaws
-- What a finished job leaves in the room, and the laws of what is written.
pub mod SarPlaces
pub mod PlaceLaws
