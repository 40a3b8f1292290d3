pub mod OneShown
